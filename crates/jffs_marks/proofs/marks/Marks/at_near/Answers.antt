use Rattle.std.proofs.Common.{◌≡◌, ◌<◌, ◌&&◌, ◌+◌, ◌-◌, ◌^◌, ◌%◌, ℕ, true, Option, Some, inl, inr, eqb, get_or, slice_get, nat_lt, length, refl, subst, sym, ap, ◌∙◌, arith}
use Rattle.std.proofs.lemmas.Bool.{and_parts, eqb-true}
use Rattle.std.specs.Option.{option_map_or}
use Rattle.jffs_marks.specs.Marks.{MarkKey, Counts, mark_key, IsKeyAt, BelongsAt}
use Rattle.jffs_marks.proofs.Places.{key_at, read_at}
use Rattle.jffs_marks.proofs.Searched.{key_within, marks_there, no_marks, belongs_between}
use Rattle.jffs_marks.proofs.marks.Marks.at_near.Goals as goal

-- An entry that was read, and has the version and inode, stands where the key does.
met : (items now : Counts) → items ≡ now → (v j i : ℕ) (e : MarkKey × ℕ) → i < length items → e ≡ get_or items i e → (eqb e.0.0.0 v && eqb e.0.1 j) ≡ true → IsKeyAt now (mark_key v j) i
met items now seen v j i e within read same =
    let parts = and_parts (eqb e.0.0.0 v) (eqb e.0.1 j) same in
    let version = eqb-true e.0.0.0 v parts.0 in
    let inode = eqb-true e.0.1 j parts.1 in
    subst (λ (t : Counts). IsKeyAt t (mark_key v j) i) seen
    (key_at items i e (read_at items i e within read) ∙ (λ t. Some (record { 0 = version t }, inode t)))

pub index-requires : goal.index-requires
index-requires c =
    let within = key_within c.args.self.now c.in-Ok.index (mark_key c.args.version c.args.inode) c.in-Ok.ensures.there in
    omega (arith, within, ap length c.self.view_is, c.self.inside.counts.ok.0)

pub returns-in-Ok-clause-placed : goal.returns-in-Ok-clause-placed
returns-in-Ok-clause-placed c = inl c.in-Ok.ensures.there

pub returns-in-Ok-clause-marks : goal.returns-in-Ok-clause-marks
returns-in-Ok-clause-marks c =
    sym (marks_there _ _ c.self.view_is c.self.invariant.ordered _ _ _ c.index.result.now c.index.ensures c.in-Ok.ensures.there)

pub returns-in-Err-clause-placed : goal.returns-in-Err-clause-placed
returns-in-Err-clause-placed c = inr c.in-Err.ensures.absent

pub returns-in-Err-clause-marks : goal.returns-in-Err-clause-marks
returns-in-Err-clause-marks c = sym (no_marks _ _ c.self.view_is c.self.invariant.ordered _ _ _ c.in-Err.ensures.absent)

-- the index that is looked at first
abbrev next : ℕ → ℕ
next near = (near + (2 ^ 64 - 1)) % 2 ^ 64

-- The key stands there.
stands : (c : goal.Then-eq) → IsKeyAt c.args.self.now (mark_key c.args.version c.args.inode) (next c.args.near.now)
stands c =
    met _ _ c.self.view_is _ _ _ c.in-Some.entry.now (let within = c.in-Some.ensures.variant.0 refl in omega (arith, c.self.inside.counts.ok.0)) c.in-Some.ensures.lookup
    (sym c.eq.ensures ∙ c.if-eq.true)

pub returns-then-eq-clause-placed : goal.returns-then-eq-clause-placed
returns-then-eq-clause-placed c = inl (stands c)

pub returns-then-eq-clause-marks : goal.returns-then-eq-clause-marks
returns-then-eq-clause-marks c =
    sym (marks_there _ _ c.self.view_is c.self.invariant.ordered _ _ _ c.in-Some.entry.now c.in-Some.ensures.lookup (stands c))

-- The key has no entry, and belongs where the last one was found.
belongs : (c : goal.Then-is_older_at) → BelongsAt c.args.self.now (mark_key c.args.version c.args.inode) c.args.near.now
belongs c =
    let items = c.self.inside.counts.items in
    let key = mark_key c.args.version c.args.inode in
    let entry = c.in-Some.entry.now in
    let within = c.in-Some.ensures.variant.0 refl in
    let at = read_at items (next c.args.near.now) entry (omega (arith, within, c.self.inside.counts.ok.0)) c.in-Some.ensures.lookup in
    let one_more : next c.args.near.now + 1 ≡ c.args.near.now = omega (arith, within) in
    let older = ap (λ (o : Option (MarkKey × ℕ)). option_map_or (λ e. nat_lt e.0.0.0 c.args.version) o true)
    (ap (λ n. slice_get items n) one_more ∙ ap (λ (t : Counts). slice_get t c.args.near.now) c.self.view_is)
    ∙ sym c.is_older_at.ensures ∙ c.if-is_older_at.true in
    subst (λ (t : Counts). BelongsAt t key c.args.near.now) c.self.view_is
    (subst (λ n. BelongsAt items key n) one_more (belongs_between items c.self.invariant.ordered key (next c.args.near.now) entry at c.if-version-entry.true older))

pub returns-then-is_older_at-clause-placed : goal.returns-then-is_older_at-clause-placed
returns-then-is_older_at-clause-placed c = inr (belongs c)

pub returns-then-is_older_at-clause-marks : goal.returns-then-is_older_at-clause-marks
returns-then-is_older_at-clause-marks c = sym (no_marks _ _ c.self.view_is c.self.invariant.ordered _ _ _ (belongs c))
