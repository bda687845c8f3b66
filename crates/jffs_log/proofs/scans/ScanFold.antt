-- The tree of a log is made node by node.
use Rattle.std.proofs.Common.{◌≡◌, ⊎_elim, ℕ, ◌+◌, ◌<◌, Bool, true, false, ◌&&◌, List, [], ◌∷◌, ◌++◌, length, take, drop, reverse, get_or, sym, ap, subst, ◌∙◌}
use Rattle.std.specs.List.{AllByRecursion}
use Rattle.std.proofs.lemmas.Bool.{and_parts, and_from, cases_Bool}
use Rattle.std.proofs.lemmas.List.{take_more, reverse-append, take-append-drop, append_assoc, append-nil}
use Rattle.std.proofs.lemmas.Grind.{flat_map-append}
use Rattle.jffs_node.specs.declared.node.Node.{Node}
use Rattle.jffs_node.specs.Record.{is_lawful}
use Rattle.jffs_tree.specs.Origin.{tree_of}
use Rattle.jffs_tree.specs.Check.{each_fits, check, makes_tree, keeps_form}
use Rattle.jffs_tree.specs.After.{can_apply, keeps_kind_in}
use Rattle.jffs_inodes.specs.Inodes.{keeps_offsets_in}
use Rattle.jffs_tree.proofs.trees.Tested.{trees_test_as_nodes}
use Rattle.jffs_tree.proofs.states.Entries.{fits_parts, each_fits_from}
use Rattle.jffs_node.proofs.Each.{each_at}
use Rattle.jffs_log.specs.Image.{Sector}
use Rattle.jffs_log.specs.ScanFound.{nodes_held}

-- a node fits the tree of those before it
abbrev pub fits_after : List Node → Node → Bool
fits_after past n = keeps_form past n && can_apply (tree_of past) n

pub fits_next : (past : List Node) (n : Node) → each_fits past ≡ true → fits_after past n ≡ true → each_fits (n ∷ past) ≡ true
fits_next past n fits next =
    let a = and_parts (keeps_form past n) (can_apply (tree_of past) n) next in
    let b = and_parts (is_lawful n && keeps_kind_in (tree_of past) n) (keeps_offsets_in (tree_of past) n) a.1 in
    let d = and_parts (is_lawful n) (keeps_kind_in (tree_of past) n) b.0 in
    let same = trees_test_as_nodes past n d.0 in
    each_fits_from n past fits (sym same.0 ∙ d.1) (sym same.1 ∙ b.1) a.0

pub next_fits : (past : List Node) (n : Node) → is_lawful n ≡ true → each_fits (n ∷ past) ≡ true → fits_after past n ≡ true
next_fits past n lawful fits =
    let parts = fits_parts n past fits in
    let same = trees_test_as_nodes past n lawful in
    and_from (keeps_form past n) (can_apply (tree_of past) n) parts.3
    (and_from (is_lawful n && keeps_kind_in (tree_of past) n) (keeps_offsets_in (tree_of past) n)
    (and_from (is_lawful n) (keeps_kind_in (tree_of past) n) lawful (same.0 ∙ parts.1))
    (same.1 ∙ parts.2))

pub older_fit : (newer past : List Node) → each_fits (newer ++ past) ≡ true → each_fits past ≡ true
older_fit [] past fits = fits
older_fit (n ∷ newer) past fits = older_fit newer past (fits_parts n (newer ++ past) fits).0

reverse_more : (nodes : List Node) (i : ℕ) (n : Node) → i < length nodes → n ≡ get_or nodes i n → reverse (take (i + 1) nodes) ≡ n ∷ reverse (take i nodes)
reverse_more nodes i n below is =
    ap (λ (xs : List Node). reverse xs) (take_more nodes i n below)
    ∙ reverse-append (take i nodes) (get_or nodes i n ∷ [])
    ∙ ap (λ (m : Node). m ∷ reverse (take i nodes)) (sym is)

pub lawful_at : (nodes : List Node) (i : ℕ) (n : Node) → i < length nodes → n ≡ get_or nodes i n → AllByRecursion (λ n. is_lawful n ≡ true) nodes → is_lawful n ≡ true
lawful_at nodes i n below is lawful = subst (λ (m : Node). is_lawful m ≡ true) (sym is) (each_at (λ n. is_lawful n ≡ true) nodes i n below lawful)

module _ (past nodes : List Node) (i : ℕ) (n : Node) (below : i < length nodes) (is : n ≡ get_or nodes i n) where
  pub next_past : reverse (take (i + 1) nodes) ++ past ≡ n ∷ reverse (take i nodes) ++ past
  next_past = ap (λ (xs : List Node). xs ++ past) (reverse_more nodes i n below is)

  -- a node that doesn't fit those before it refuses all
  pub refused_at : AllByRecursion (λ n. is_lawful n ≡ true) nodes → fits_after (reverse (take i nodes) ++ past) n ≡ false → each_fits (reverse nodes ++ past) ≡ false
  refused_at lawful unfit = ⊎_elim
      (λ (yes : each_fits (reverse nodes ++ past) ≡ true).
      let later = reverse (drop (i + 1) nodes) in
      let whole : reverse nodes ++ past ≡ later ++ (n ∷ reverse (take i nodes) ++ past) =
      ap (λ (xs : List Node). reverse xs ++ past) (sym (take-append-drop (i + 1) nodes))
      ∙ ap (λ (xs : List Node). xs ++ past) (reverse-append (take (i + 1) nodes) (drop (i + 1) nodes))
      ∙ append_assoc later (reverse (take (i + 1) nodes)) past
      ∙ ap (λ (xs : List Node). later ++ xs) next_past in
      let older = older_fit later (n ∷ reverse (take i nodes) ++ past) (sym (ap each_fits whole) ∙ yes) in
      let fit = next_fits (reverse (take i nodes) ++ past) n (lawful_at nodes i n below is lawful) older in
      cc)
      (λ (no : each_fits (reverse nodes ++ past) ≡ false). no)
      (cases_Bool (each_fits (reverse nodes ++ past)))

module _ (held : List (ℕ × Sector)) (k : ℕ) (s : ℕ × Sector) (below : k < length held) (is : s ≡ get_or held k s) where
  -- the nodes of one sector more
  pub sectors_more : reverse (nodes_held (take (k + 1) held)) ≡ reverse s.1.reading.nodes ++ reverse (nodes_held (take k held))
  sectors_more =
      ap (λ (xs : List (ℕ × Sector)). reverse (nodes_held xs)) (take_more held k s below)
      ∙ ap (λ (xs : List Node). reverse xs) (flat_map-append (λ (t : ℕ × Sector). t.1.reading.nodes) (take k held) (get_or held k s ∷ []))
      ∙ ap (λ (t : ℕ × Sector). reverse (nodes_held (take k held) ++ (t.1.reading.nodes ++ []))) (sym is)
      ∙ ap (λ (xs : List Node). reverse (nodes_held (take k held) ++ xs)) (append-nil s.1.reading.nodes)
      ∙ reverse-append (nodes_held (take k held)) s.1.reading.nodes

  -- nodes of a sector that don't fit refuse the log
  pub log_refused : each_fits (reverse s.1.reading.nodes ++ reverse (nodes_held (take k held))) ≡ false → makes_tree (reverse (nodes_held held)) ≡ false
  log_refused unfit = ⊎_elim
      (λ (yes : makes_tree (reverse (nodes_held held)) ≡ true).
      let later = nodes_held (drop (k + 1) held) in
      let whole : reverse (nodes_held held) ≡ reverse later ++ reverse (nodes_held (take (k + 1) held)) =
      ap (λ (xs : List (ℕ × Sector)). reverse (nodes_held xs)) (sym (take-append-drop (k + 1) held))
      ∙ ap (λ (xs : List Node). reverse xs) (flat_map-append (λ (t : ℕ × Sector). t.1.reading.nodes) (take (k + 1) held) (drop (k + 1) held))
      ∙ reverse-append (nodes_held (take (k + 1) held)) later in
      let all = (and_parts (each_fits (reverse (nodes_held held))) (check (tree_of (reverse (nodes_held held)))) yes).0 in
      let older = older_fit (reverse later) (reverse (nodes_held (take (k + 1) held))) (sym (ap each_fits whole) ∙ all) in
      let here = sym (ap each_fits sectors_more) ∙ older in
      cc)
      (λ (no : makes_tree (reverse (nodes_held held)) ≡ false). no)
      (cases_Bool (makes_tree (reverse (nodes_held held))))
