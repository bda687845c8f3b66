-- An inode's fields after a node is written over it.
use Rattle.std.proofs.Common.{◌≡◌, ℕ, List, [], map, Option, Some, None, unwrap_or, is_some, refl, sym, ap, ◌∙◌}
use Rattle.jffs_node.specs.declared.node.Node.{Node}
use Rattle.jffs_node.specs.Record.{name_bytes}
use Rattle.jffs_inodes.specs.Held.{splice, sized, Held, spliced_with, sized_with, writers_after, held_after}
use Rattle.jffs_inodes.specs.Fragments.{Fragments, byte_of, writer_of, laid, IsFileAfter}
use Rattle.jffs_inodes.proofs.files.Counted.{map_spliced, map_sized, bytes_of_cells, writers_of_cells}
use Rattle.jffs_inodes.proofs.files.FileWritten.{node_cells}

same_sized : (size : Option ℕ) (c : List ℕ) → sized_with 0 size c ≡ sized size c
same_sized None c = refl
same_sized (Some k) c = refl

module _ (n : Node) (size after : ℕ) (was now : Fragments) (h : IsFileAfter n size was after now) where
  pub bytes_written : map byte_of (laid 0 after now) ≡ sized n.size (splice (map byte_of (laid 0 size was)) n)
  bytes_written =
      ap (map byte_of) h.cells
      ∙ map_sized byte_of n.size (spliced_with None n.offset n.rsize (node_cells n) (laid 0 size was))
      ∙ ap (sized_with 0 n.size) (map_spliced byte_of n.offset n.rsize (node_cells n) (laid 0 size was) ∙ ap (λ (b : List ℕ). spliced_with 0 n.offset n.rsize b (map byte_of (laid 0 size was))) (bytes_of_cells n.version n.bytes))
      ∙ same_sized n.size (splice (map byte_of (laid 0 size was)) n)

  pub writers_written : map writer_of (laid 0 after now) ≡ writers_after n (map writer_of (laid 0 size was))
  writers_written =
      ap (map writer_of) h.cells
      ∙ map_sized writer_of n.size (spliced_with None n.offset n.rsize (node_cells n) (laid 0 size was))
      ∙ ap (sized_with None n.size) (map_spliced writer_of n.offset n.rsize (node_cells n) (laid 0 size was) ∙ ap (λ (b : List (Option ℕ)). spliced_with None n.offset n.rsize b (map writer_of (laid 0 size was))) (writers_of_cells n.version n.bytes))

pub held_written : (n : Node) (name : List ℕ) (h : Held) (bytes : List ℕ) (writers : List (Option ℕ)) → n.name ≡ Some name → bytes ≡ sized n.size (splice h.entry.bytes n) → writers ≡ writers_after n h.writers
    → record { entry = record { kind = n.kind; parent = n.parent; name = name; bytes = bytes }; writers = writers; newest = Some n.version; states_size = is_some n.size } ≡ held_after n (Some h)
held_written n name h bytes writers named b w =
    ap (λ (x : List ℕ). record { entry = record { kind = n.kind; parent = n.parent; name = x; bytes = bytes }; writers = writers; newest = Some n.version; states_size = is_some n.size }) (sym (ap (λ o. unwrap_or o []) named))
    ∙ ap (λ (x : List ℕ). record { entry = record { kind = n.kind; parent = n.parent; name = name_bytes n; bytes = x }; writers = writers; newest = Some n.version; states_size = is_some n.size }) b
    ∙ ap (λ (x : List (Option ℕ)). record { entry = record { kind = n.kind; parent = n.parent; name = name_bytes n; bytes = sized n.size (splice h.entry.bytes n) }; writers = x; newest = Some n.version; states_size = is_some n.size }) w
