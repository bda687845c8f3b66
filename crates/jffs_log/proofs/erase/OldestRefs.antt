-- What an index has of the records of its oldest sector.
use Rattle.std.proofs.Common.{◌≡◌, ◌∙◌, ℕ, zero, suc, ◌<◌, ◌≤◌, List, [], ◌∷◌, ◌++◌, length, map, flat_map, get_or, eqb, refl, sym, ap, subst, arith, length-append}
use Rattle.std.specs.List.{take_while}
use Rattle.std.proofs.lemmas.List.{length-map}
use Rattle.jffs_node.specs.declared.node.Node.{Node}
use Rattle.jffs_tree.specs.Decide.{source_of}
use Rattle.jffs_log.specs.declared.log_index.RecordRef.{RecordRef}
use Rattle.jffs_log.specs.Image.{Placed, nodes_of, records_in, records_in_first, log_sectors}
use Rattle.jffs_log.specs.Volume.{sectors_in}
use Rattle.jffs_log.specs.LogIndex.{ref_of, source_in, Describes}
use Rattle.jffs_log.proofs.ring.Ring.{Numbered, ring_log}
use Rattle.jffs_log.proofs.erase.OldestDead.{oldest_taken}

-- a record of the oldest sector, among all
at_front : (front rest : List Placed) (i : ℕ) (d : RecordRef) (none : Node) → i < length front → source_in (get_or (map ref_of (front ++ rest)) i d) ≡ source_of (get_or (nodes_of front) i none)
at_front [] rest i d none below = absurd (omega arith)
at_front (p ∷ front) rest zero d none below = refl
at_front (p ∷ front) rest (suc i) d none below = at_front front rest i d none (omega arith)

at_first : (held : List Numbered) (i : ℕ) (d : RecordRef) (none : Node) → i < length (records_in_first held) → source_in (get_or (map ref_of (flat_map records_in held)) i d) ≡ source_of (get_or (nodes_of (records_in_first held)) i none)
at_first [] i d none below = absurd (omega arith)
at_first (o ∷ rest) i d none below = at_front (records_in o) (flat_map records_in rest) i d none below

module _ (count len : ℕ) (image : List ℕ) (first many tail used free : ℕ) (records : List RecordRef) (h : Describes count len image first many tail used free records) where
  abbrev oldest : List Placed
  oldest = records_in_first (log_sectors (sectors_in count len image))

  same : records_in_first h.held ≡ oldest
  same = ap records_in_first (sym (ring_log first (sectors_in count len image) h.held h.blank h.ring).0)

  -- as many stand before the first one of another sector
  pub oldest_counted : length (take_while (λ (k : RecordRef). eqb k.sector first) records) ≡ length oldest
  oldest_counted =
      ap (λ (ks : List RecordRef). length (take_while (λ (k : RecordRef). eqb k.sector first) ks)) h.listed
      ∙ ap (λ (ks : List RecordRef). length ks) (oldest_taken first (sectors_in count len image) h.held h.blank h.ring)
      ∙ length-map (records_in_first h.held) ref_of
      ∙ ap (λ (ps : List Placed). length ps) same

  -- what cleaning knows of each, by its number
  pub oldest_at : (i : ℕ) (d : RecordRef) (none : Node) → i < length oldest → source_in (get_or records i d) ≡ source_of (get_or (nodes_of oldest) i none)
  oldest_at i d none below =
      ap (λ (ks : List RecordRef). source_in (get_or ks i d)) h.listed
      ∙ at_first h.held i d none (subst (λ (ps : List Placed). i < length ps) (sym same) below)
      ∙ ap (λ (ps : List Placed). source_of (get_or (nodes_of ps) i none)) same

  pub oldest_inside : (i : ℕ) → i < length oldest → i < length records
  oldest_inside i below =
      let all = ap (λ (ks : List RecordRef). length ks) h.listed ∙ length-map (flat_map records_in h.held) ref_of in
      let few = ap (λ (ps : List Placed). length ps) same in
      let most = first_few h.held in
      omega arith
    where
      first_few : (held : List Numbered) → length (records_in_first held) ≤ length (flat_map records_in held)
      first_few [] = omega arith
      first_few (o ∷ rest) = let both = length-append (records_in o) (flat_map records_in rest) in omega arith
