-- What looks into a tree find.
use Rattle.std.proofs.Common.{◌≡◌, ℕ, zero, suc, ◌-◌, ◌<◌, ◌≤◌, Bool, true, false, cond, ◌||◌, eqb, option_map, List, [], ◌∷◌, get_or, Option, Some, None, refl, sym, ap, ◌∙◌, arith, ⊎_elim, nat_cmp}
use Rattle.std.specs.Option.{unwrap_or, option_map_or}
use Rattle.std.specs.Ordering.{eq_by_cmp}
use Rattle.jffs_node.specs.declared.node.Kind.TheVariants.{Directory}
use Rattle.jffs_node.specs.Record.{is_directory}
use Rattle.std.proofs.lemmas.List.{get_or_past}
use Rattle.jffs_node.specs.declared.node.Node.{Node}
use Rattle.jffs_inodes.specs.Held.{Entry, bytes_of, Held}
use Rattle.jffs_tree.specs.State.{State, at, has_kind, is_directory_in}
use Rattle.jffs_inodes.specs.Inodes.{Tree, held_in}
use Rattle.jffs_tree.specs.Origin.{state_in, concerns, tree_of, entry, size_in, origin, newest, version_of, writers_of}
use Rattle.jffs_tree.specs.Check.{is_within}
use Rattle.jffs_tree.specs.Look.{writers_in, kind_in, bytes_in}
use Rattle.std.proofs.Math.Bool.{or-false}
use Rattle.std.proofs.lemmas.Bool.{cases_Bool, ne_eqb}
use Rattle.jffs_tree.proofs.states.Steps.{entry-other, entry-written, newest-other, newest-deleted}
use Rattle.jffs_tree.proofs.trees.Grown.{at-tree, held_at, length-writers, read_writers, writers_held}

none_newest : (past : List Node) (i : ℕ) → entry past i ≡ None → newest past i ≡ None
none_newest [] i there = refl
none_newest (n ∷ past) i there = ⊎_elim
    (λ c. ⊎_elim
    (λ d. newest-deleted i n past c d)
    (λ d. let some = entry-written i n past c d in cc)
    (cases_Bool n.deleted))
    (λ c. newest-other i n past c ∙ none_newest past i (sym (entry-other i n past c) ∙ there))
    (cases_Bool (concerns i n))

module _ (past : List Node) (tree : Tree) (i : ℕ) (is : tree ≡ tree_of past) where
  writers_there : writers_in tree i ≡ writers_of past i
  writers_there =
      ap (λ t. writers_in t i) is
      ∙ ap (λ o. unwrap_or (option_map (λ h. h.writers) o) []) (at-tree past i)
      ∙ writers_held past i (entry past i) refl

  pub writer_inside : (p : ℕ) → p < size_in past i → get_or (writers_in tree i) p None ≡ version_of (origin past i p)
  writer_inside p l = ap (λ ws. get_or ws p None) writers_there ∙ read_writers past i p l

  pub writer_past_end : (p : ℕ) → size_in past i ≤ p → get_or (writers_in tree i) p None ≡ None
  writer_past_end p l = ap (λ ws. get_or ws p None) writers_there ∙ get_or_past (writers_of past i) p None (let k = length-writers past i in omega arith)

  pub newest_there : unwrap_or (option_map (λ h. h.newest) (held_in tree i)) None ≡ version_of (newest past i)
  newest_there =
      ap (λ t. unwrap_or (option_map (λ h. h.newest) (held_in t i)) None) is
      ∙ ap (λ o. unwrap_or (option_map (λ h. h.newest) o) None) (at-tree past i)
      ∙ by_entry (entry past i) refl
    where
      by_entry : (o : Option Entry) → entry past i ≡ o → unwrap_or (option_map (λ h. h.newest) (option_map (λ e. held_at past i e) o)) None ≡ version_of (newest past i)
      by_entry (Some e) there = refl
      by_entry None there = ap version_of (sym (none_newest past i there))

-- the state in a tree, inode by inode
pub entry_in : (tree : Tree) (i : ℕ) → at (state_in tree) i ≡ option_map (λ h. h.entry) (held_in tree i)
entry_in [] i = refl
entry_in (h ∷ tree) i = ⊎_elim
    (λ t. ap (λ b. cond b (Some h.1.entry) (at (state_in tree) i)) t ∙ ap (λ b. option_map (λ x. x.entry) (cond b (Some h.1) (held_in tree i))) (sym t))
    (λ t. ap (λ b. cond b (Some h.1.entry) (at (state_in tree) i)) t ∙ entry_in tree i ∙ ap (λ b. option_map (λ x. x.entry) (cond b (Some h.1) (held_in tree i))) (sym t))
    (cases_Bool (eq_by_cmp nat_cmp i h.0))

pub bytes_told : (tree : Tree) (i : ℕ) → bytes_in tree i ≡ bytes_of (at (state_in tree) i)
bytes_told tree i = by_held (held_in tree i) ∙ ap bytes_of (sym (entry_in tree i))
  where
    by_held : (o : Option Held) → unwrap_or (option_map (λ h. h.entry.bytes) o) [] ≡ bytes_of (option_map (λ h. h.entry) o)
    by_held None = refl
    by_held (Some h) = refl

pub directory_in : (tree : Tree) (i : ℕ) → option_map_or is_directory (kind_in tree i) false ≡ is_directory_in (state_in tree) i
directory_in tree i = ⊎_elim
    (λ top. ap (λ b. option_map_or is_directory (cond b (Some Directory) (option_map (λ h. h.entry.kind) (held_in tree i))) false) top
    ∙ ap (λ b. b || (has_kind is_directory (state_in tree) i || false)) (sym top))
    (λ other. ap (λ b. option_map_or is_directory (cond b (Some Directory) (option_map (λ h. h.entry.kind) (held_in tree i))) false) other
    ∙ by_held (held_in tree i)
    ∙ ap (λ o. option_map_or (λ e. is_directory e.kind) o false || false) (sym (entry_in tree i))
    ∙ ap (λ b. b || (has_kind is_directory (state_in tree) i || false)) (sym other))
    (cases_Bool (eqb i 1))
  where
    by_held : (o : Option Held) → option_map_or is_directory (option_map (λ h. h.entry.kind) o) false ≡ (option_map_or (λ e. is_directory e.kind) (option_map (λ h. h.entry) o) false || false)
    by_held None = refl
    by_held (Some h) = sym (or-false (is_directory h.entry.kind))

-- the same of an inode that was found
pub directory_found : (tree : Tree) (i : ℕ) (h : Held) → held_in tree i ≡ Some h → is_directory_in (state_in tree) i ≡ (eqb i 1 || is_directory h.entry.kind)
directory_found tree i h is =
    sym (directory_in tree i)
    ∙ ap (λ o. option_map_or is_directory (cond (eqb i 1) (Some Directory) (option_map (λ x. x.entry.kind) o)) false) is
    ∙ by_root (eqb i 1)
  where
    by_root : (b : Bool) → option_map_or is_directory (cond b (Some Directory) (Some h.entry.kind)) false ≡ (b || is_directory h.entry.kind)
    by_root true = refl
    by_root false = refl

-- one step up
pub within_up : (k : ℕ) (s : State) (i : ℕ) → (k ≡ 0 → ⊥) → (i ≡ 1 → ⊥) → is_within k s i ≡ option_map_or (λ e. is_within (k - 1) s e.parent) (at s i) false
within_up zero s i some low = absurd (some refl)
within_up (suc k) s i some low =
    let less : k ≡ suc k - 1 = omega arith in
    ap (λ b. b || option_map_or (λ e. is_within k s e.parent) (at s i) false) (ne_eqb i 1 low)
    ∙ ap (λ m. option_map_or (λ e. is_within m s e.parent) (at s i) false) less
