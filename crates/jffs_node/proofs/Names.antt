-- How a name is stored.
use Rattle.std.proofs.Common.{◌≡◌, ℕ, ◌-◌, ◌≤◌, true, ◌&&◌, leb, List, ◌++◌, length, take, drop, replicate, sym, ap, ◌∙◌, arith}
use Rattle.std.proofs.Math.Seq.{take-append_seam}
use Rattle.std.proofs.lemmas.Bool.{and_parts, leb-true}
use Rattle.std.proofs.lemmas.List.{drop-replicate, length-append, length-replicate}
use Rattle.std.specs.List.{list_all}
use Rattle.jffs_node.specs.Name.{is_name, is_name_byte, padded_name, IsStored}

pub long_enough : (nb : List ℕ) → is_name nb ≡ true → (1 ≤ length nb) × (length nb ≤ 20)
long_enough nb h =
    let parts = and_parts (leb 1 (length nb)) (leb (length nb) 20) (and_parts (leb 1 (length nb) && leb (length nb) 20) (list_all is_name_byte nb) h).0 in
    (leb-true 1 (length nb) parts.0, leb-true (length nb) 20 parts.1)

pub length-padded : (nb : List ℕ) → length nb ≤ 20 → length (padded_name nb) ≡ 20
length-padded nb short = omega (arith, length-append nb (replicate (20 - length nb) 0), length-replicate {A = ℕ} (20 - length nb) 0)

-- the bytes that a name leaves of a field of zeros
zeros_behind : (k : ℕ) → k ≤ 20 → drop {A = ℕ} k (replicate 20 0) ≡ replicate (20 - k) 0
zeros_behind k short = drop-replicate k 20 0

-- a name that was written over zeros
pub stored_name : (name : List ℕ) → is_name name ≡ true → IsStored (record { bytes = name ++ drop (length name) (replicate 20 0); length = length name })
stored_name name named = record {
  whole = ap (λ (xs : List ℕ). name ++ xs) (zeros_behind (length name) (long_enough name named).1) ∙ ap padded_name (sym seam);
  counted = ap length seam;
  lawful = ap is_name seam ∙ named;
}
  where
    seam : take (length name) (name ++ drop (length name) (replicate 20 0)) ≡ name
    seam = take-append_seam name (drop (length name) (replicate 20 0))
