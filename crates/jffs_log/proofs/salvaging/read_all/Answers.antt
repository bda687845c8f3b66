-- The first of the sectors that are left is read.
use Rattle.std.proofs.Common.{◌≡◌, ℕ, suc, ◌+◌, ◌-◌, ◌*◌, ◌<◌, List, [], ◌∷◌, ◌++◌, take, drop, append_assoc, sym, ap, ◌∙◌, arith}
use Rattle.std.specs.List.{enumerate_from}
use Rattle.jffs_log.specs.Image.{sector_of}
use Rattle.jffs_log.specs.Volume.{sectors_in}
use Rattle.jffs_log.proofs.ring.Ring.{Numbered}
use Rattle.jffs_log.proofs.salvaging.read_all.Goals as goal

next_read : (count k len : ℕ) (rest bytes later : List ℕ) (found next all : List Numbered) (s : Numbered) → k < count
    → bytes ≡ take len rest → later ≡ drop len rest → s ≡ (k, sector_of bytes) → next ≡ found ++ s ∷ []
    → found ++ enumerate_from k (sectors_in (count - k) len rest) ≡ all
    → next ++ enumerate_from (k + 1) (sectors_in (count - (k + 1)) len later) ≡ all
next_read count k len rest bytes later found next all s below front back is pushed before =
    let more : count - k ≡ suc (count - (k + 1)) = omega arith in
    let rest_of = λ (xs : List ℕ). enumerate_from (k + 1) (sectors_in (count - (k + 1)) len xs) in
    (λ i. pushed i ++ rest_of (back i))
    ∙ append_assoc found (s ∷ []) (rest_of (drop len rest))
    ∙ ap (λ (t : Numbered). found ++ t ∷ rest_of (drop len rest)) (is ∙ ap (λ (xs : List ℕ). (k, sector_of xs)) front)
    ∙ sym (ap (λ (n : ℕ). found ++ enumerate_from k (sectors_in n len rest)) more)
    ∙ before

pub loop-sector-preserved : goal.loop-sector-preserved
loop-sector-preserved c =
    let w = c.loop-sector.invariant in
    let k = c.loop-sector.sector in
    let more : c.args.sectors - k ≡ suc (c.args.sectors - (k + 1)) = omega arith in
    let longer : (c.args.sectors - k) * c.args.sector_size ≡ (c.args.sectors - (k + 1)) * c.args.sector_size + c.args.sector_size = ap (λ (n : ℕ). n * c.args.sector_size) more ∙ omega arith in
    record {
      read = next_read c.args.sectors k c.args.sector_size _ _ _ _ _ _ _ c.loop-sector-test.true c.split_at.ensures.front c.split_at.ensures.back c.in_ok-read_sector.ensures.read c.in_ok-push.ensures.items w.read;
      left = omega (arith, c.split_at.ensures.back_len, w.left, longer);
    }
