-- The numbers of the sectors of a ring.
use Rattle.std.proofs.Common.{◌≡◌, ℕ, suc, ◌+◌, ◌-◌, ◌<◌, ◌≤◌, [], ◌++◌, codes, decimal, arith, refl}
use Rattle.jffs_log.specs.Wear.{sector_after}
use Rattle.jffs_tools.specs.Texts.{ring_text}

-- the next of the sectors that are left
pub ring_step : (sectors held done sector : ℕ) → done < held → ring_text sectors (held - done) sector ≡ codes " " ++ (decimal sector ++ ring_text sectors (held - (done + 1)) (sector_after sectors sector))
unfolding ring_text
ring_step sectors held done sector h =
    let e : held - done ≡ suc (held - (done + 1)) = omega arith in
    rw e refl

-- none of them is left
pub ring_end : (sectors held done sector : ℕ) → held ≤ done → ring_text sectors (held - done) sector ≡ []
unfolding ring_text
ring_end sectors held done sector h =
    let e : held - done ≡ 0 = omega arith in
    rw e refl
