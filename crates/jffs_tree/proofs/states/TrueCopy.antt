-- A true copy changes no state.
use Rattle.std.proofs.Common.{◌≡◌, ℕ, ◌+◌, ◌-◌, ◌≤◌, true, false, cond, not, List, ◌∷◌, length, take, drop, get_or, Some, None, refl, sym, ap, ◌∙◌, arith, ⊎_elim}
use Rattle.std.proofs.lemmas.Bool.{leb-true, and_parts, cases_lt, not-true}
use Rattle.std.proofs.lemmas.List.{ext_get_or}
use Rattle.jffs_node.specs.declared.node.Node.{Node}
use Rattle.jffs_node.specs.Record.{is_unmount, is_file, dsize}
use Rattle.jffs_inodes.specs.Held.{Entry, sized, splice, written}
use Rattle.jffs_tree.specs.State.{state_of_past}
use Rattle.jffs_tree.specs.Origin.{concerns, entry, IsTrueCopy, stated_size}
use Rattle.jffs_tree.proofs.states.Pointwise.{same_state}
use Rattle.jffs_tree.proofs.states.Offsets.{spliced, length-spliced, read_before, read_written, read_after, length-sized, read_sized}
use Rattle.jffs_tree.proofs.states.Steps.{its_inode}
use Rattle.std.proofs.lemmas.List.{get_or-take, get_or-drop}

-- bytes that are put where they stand change nothing
pub same_put : (c b : List ℕ) (o : ℕ) → o + length b ≤ length c → b ≡ take (length b) (drop o c) → spliced c o (length b) b ≡ c
same_put c b o within is =
    let len : length (spliced c o (length b) b) ≡ length c = (let e = length-spliced 0 c o (length b) b in omega arith) in
    ext_get_or 0 _ _ len (λ p l. ⊎_elim {C = get_or (spliced c o (length b) b) p 0 ≡ get_or c p 0}
    (λ before. read_before 0 c o (length b) b p before)
    (λ from. ⊎_elim
    (λ inside. let back : o + (p - o) ≡ p = omega arith in
    read_written 0 c o (length b) b p from inside
    ∙ ap (λ (x : List ℕ). get_or x (p - o) 0) is
    ∙ get_or-take (length b) (drop o c) (p - o) 0 (omega arith)
    ∙ get_or-drop o c (p - o) 0
    ∙ ap (λ i. get_or c i 0) back)
    (λ behind. let back : (p - length b) + length b ≡ p = omega arith in
    read_after 0 c o (length b) b p behind ∙ ap (λ i. get_or c i 0) back)
    (cases_lt p (o + length b)))
    (cases_lt p o))

-- and so does the size that the bytes have
same_size : (c : List ℕ) → sized (Some (length c)) c ≡ c
same_size c = ext_get_or 0 _ _ (length-sized 0 (length c) c) (λ p l. read_sized 0 (Some (length c)) c p l)

pub stated : (e : Entry) → sized (stated_size e) e.bytes ≡ e.bytes
stated e = elim (is_file e.kind) as (λ f. sized (cond f (Some (length e.bytes)) None) e.bytes ≡ e.bytes) [ true ↦ same_size e.bytes | false ↦ refl ]

standing : (past : List Node) (c : Node) (e : Entry) → IsTrueCopy past c e → c.deleted ≡ false
standing past c e h = not-true c.deleted (and_parts (not (is_unmount c.kind)) (not c.deleted) h.stands).1

copied_bytes : (past : List Node) (c : Node) (e : Entry) → IsTrueCopy past c e → sized c.size (splice e.bytes c) ≡ e.bytes
copied_bytes past c e h =
    let within = leb-true (c.offset + dsize c) (length e.bytes) h.reaches in
    ap (λ r. sized c.size (spliced e.bytes c.offset r c.bytes)) h.range
    ∙ ap (λ x. sized c.size x) (same_put e.bytes c.bytes c.offset within h.bytes)
    ∙ ap (λ s. sized s e.bytes) h.size
    ∙ stated e

copied_entry : (past : List Node) (c : Node) (e : Entry) → IsTrueCopy past c e → written c (Some e) ≡ e
copied_entry past c e h i = record { kind = h.kind i; parent = h.parent i; name = h.name i; bytes = copied_bytes past c e h i }

-- what a true copy makes of each inode is what was so
copied_at : (past : List Node) (c : Node) (e : Entry) → IsTrueCopy past c e → (i : ℕ) → entry (c ∷ past) i ≡ entry past i
copied_at past c e h i =
    elim (concerns i c) as (λ t. concerns i c ≡ t → cond t (cond c.deleted None (Some (written c (entry past i)))) (entry past i) ≡ entry past i) [
      | true ↦ λ is.
          let here : entry past i ≡ Some e = ap (entry past) (sym (its_inode i c is)) ∙ h.present in
          ap (λ d. cond d None (Some (written c (entry past i)))) (standing past c e h)
          ∙ ap (λ o. Some (written c o)) here
          ∙ ap (λ x. Some x) (copied_entry past c e h)
          ∙ sym here
      | false ↦ λ is. refl
    ] refl

pub true_copy_keeps_state : (past : List Node) (c : Node) (e : Entry) → IsTrueCopy past c e → state_of_past (c ∷ past) ≡ state_of_past past
true_copy_keeps_state past c e h = same_state (c ∷ past) past (copied_at past c e h)
