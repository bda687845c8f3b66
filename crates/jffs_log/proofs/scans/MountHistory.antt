-- A log that a scan finds is a lawful history.
use Rattle.std.proofs.Common.{◌≡◌, ℕ, zero, suc, ◌/◌, true, not, List, [], ◌∷◌, length, drop, map, flat_map, refl, sym, ap, subst, ◌∙◌}
use Rattle.std.specs.List.{enumerate_from, AllByRecursion}
use Rattle.std.proofs.lemmas.List.{append-nil}
use Rattle.jffs_node.specs.declared.node.Node.{Node}
use Rattle.jffs_node.specs.declared.read.Read.TheVariants.{Closed, Free, Torn, Bad}
use Rattle.jffs_node.specs.Record.{is_lawful}
use Rattle.jffs_node.specs.Reading.{found, reading_of}
use Rattle.jffs_node.proofs.Sound.{found_are_records}
use Rattle.jffs_flash.specs.Sizes.{is_geometry}
use Rattle.jffs_node.proofs.Each.{each_append}
use Rattle.jffs_log.specs.Image.{Placed, sector_of, records_in, starts, oldest_of, turned, log_sectors, log_of, nodes_of, past_of}
use Rattle.jffs_log.specs.Volume.{split, sectors_in}
use Rattle.jffs_log.specs.Live.{live_log}
use Rattle.jffs_log.specs.History.{IsLawfulHistory, MountsAreHistories}
use Rattle.jffs_log.proofs.ring.Ring.{Numbered}
use Rattle.jffs_log.proofs.ring.Volume.{length-split}
use Rattle.jffs_log.proofs.scans.MountedLog.{Bytes, after_found, dropped_bytes, placed_nodes, nodes_mapped, scan_parts, falls_backwards, each_numbered, each_turned, each_filtered}
use Rattle.jffs_log.proofs.scans.ScanSectors.{all_sound}
use Rattle.jffs_log.proofs.Histories.{all_turned}

abbrev pub IsLawful : Node → Type 0
IsLawful n = is_lawful n ≡ true

-- Nodes that are read are lawful.
lawful_read : (more record_max : ℕ) (rest : List ℕ) → Bytes rest → AllByRecursion IsLawful (reading_of more record_max rest).nodes
lawful_read zero record_max rest b = tt
lawful_read (suc more) record_max rest b = elim (found record_max rest) as (λ r. found record_max rest ≡ r → AllByRecursion IsLawful (after_found more record_max rest r).nodes) [
  | Closed n len ↦ λ is. ((found_are_records rest record_max n len b is).0.lawful, lawful_read more record_max (drop len rest) (dropped_bytes len rest b))
  | Free ↦ λ is. tt
  | Torn ↦ λ is. tt
  | Bad reason ↦ λ is. tt
] refl

lawful_sectors : (image : List (List ℕ)) → AllByRecursion Bytes image → AllByRecursion (λ s. AllByRecursion IsLawful s.reading.nodes) (map sector_of image)
lawful_sectors [] h = tt
lawful_sectors (bytes ∷ image) h = (lawful_read (length bytes / 64) (length bytes / 4) bytes h.0, lawful_sectors image h.1)

lawful_log : (held : List Numbered) → AllByRecursion (λ s. AllByRecursion IsLawful s.1.reading.nodes) held → AllByRecursion IsLawful (nodes_of (flat_map records_in held))
lawful_log [] h = tt
lawful_log (s ∷ held) h =
    subst (AllByRecursion IsLawful) (sym (nodes_mapped (records_in s) (flat_map records_in held)))
    (each_append IsLawful (nodes_of (records_in s)) (nodes_of (flat_map records_in held)) (subst (AllByRecursion IsLawful) (sym (placed_nodes s.0 0 s.1.reading.nodes)) h.0) (lawful_log held h.1))

-- All nodes of the log of an image of bytes.
pub log_lawful : (count len : ℕ) (image : List ℕ) → AllByRecursion Bytes (split count len image) → AllByRecursion IsLawful (nodes_of (log_of (sectors_in count len image)))
log_lawful count len image bytes =
    let sectors = sectors_in count len image in
    let P : Numbered → Type 0 = λ s. AllByRecursion IsLawful s.1.reading.nodes in
    lawful_log (log_sectors sectors) (each_filtered P (λ s. not s.1.erased) (turned (oldest_of (starts sectors)) (enumerate_from 0 sectors))
    (each_turned P (oldest_of (starts sectors)) (enumerate_from 0 sectors) (each_numbered (λ s. AllByRecursion IsLawful s.reading.nodes) 0 sectors (lawful_sectors (split count len image) bytes))))

pub mounts_are_histories : MountsAreHistories
mounts_are_histories count len image scanned bytes is =
    let sectors = sectors_in count len image in
    let log = live_log count len image in
    let s = scan_parts len (split count len image) scanned is in
    let lawful : AllByRecursion IsLawful (nodes_of log) = log_lawful count len image bytes in
    let history : IsLawfulHistory count len image (past_of log) = record {
      sizes = ap (λ k. is_geometry k len) (sym (length-split count len image)) ∙ s.sizes;
      readable = record {
        sound = all_sound 0 sectors s.none;
        erased = s.erased;
        run = s.run;
      };
      rules = record {
        lawful = record {
          each = all_turned IsLawful (nodes_of log) lawful;
          tree = s.tree;
        };
        falls = falls_backwards (nodes_of log) s.rise;
      };
      gone = [];
      front = sym (append-nil (past_of log));
      dead = tt;
    } in
    subst (λ (l : List Placed). IsLawfulHistory count len image (past_of l)) s.log history
