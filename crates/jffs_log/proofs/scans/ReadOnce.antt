-- Each sector is read once, so a read fails only where some byte could not be read once more.
use Rattle.std.proofs.Common.{◌≡◌, ℕ, suc, ◌*◌, ◌<◌, ◌≤◌, Bool, true, false, ◌||◌, eqb, List, length, refl, arith}
use Rattle.std.proofs.Math.Nat.{mul-le-mul_right}
use Rattle.std.proofs.lemmas.Bool.{and_parts, eqb-true}
use Rattle.std.specs.Prelude.{◌&&◌, nat_le}
use Rattle.jffs_flash.specs.ReadsLeft.{HasSpent, left_at}
use Rattle.jffs_flash.specs.Sizes.{is_sector_size, is_geometry}
use Rattle.jffs_flash.specs.declared.sizes.TheConstants.{MIN_SECTORS, MAX_SECTORS}

-- A sector that is still to be read is as it was, and stands inside the device.
pub sector_spent : (count k len : ℕ) (image : List ℕ) (old now : List ℕ) → length image ≡ count * len → k < count → ((i : ℕ) → k * len ≤ i → left_at old i ≤ left_at now i) → HasSpent now (k * len) len → HasSpent old 0 (length image)
sector_spent count k len image old now whole inside kept spent =
    let there : suc k * len ≤ count * len = mul-le-mul_right len inside in
    let most = kept spent.offset spent.from in
    let below = spent.below in
    let none = spent.none in
    record { offset = spent.offset; from = omega arith; below = omega arith; none = omega arith }

-- A sector of a volume has a byte, and more than a header.
sector_long : (len : ℕ) → is_sector_size len ≡ true → 64 ≤ len
sector_long len h = by_any (eqb 1024 len) (eqb 2048 len) (eqb 4096 len) (eqb 8192 len) (eqb 16384 len) (eqb-true 1024 len) (eqb-true 2048 len) (eqb-true 4096 len) (eqb-true 8192 len) (eqb-true 16384 len) h
  where
    by_any : (a b c d e : Bool) → (a ≡ true → 1024 ≡ len) → (b ≡ true → 2048 ≡ len) → (c ≡ true → 4096 ≡ len) → (d ≡ true → 8192 ≡ len) → (e ≡ true → 16384 ≡ len) → (a || (b || (c || (d || (e || false))))) ≡ true → 64 ≤ len
    by_any true b c d e f g h i j k = let is = f refl in omega arith
    by_any false true c d e f g h i j k = let is = g refl in omega arith
    by_any false false true d e f g h i j k = let is = h refl in omega arith
    by_any false false false true e f g h i j k = let is = i refl in omega arith
    by_any false false false false true f g h i j k = let is = j refl in omega arith
    by_any false false false false false f g h i j k = cc

pub sizes_long : (count len : ℕ) → is_geometry count len ≡ true → 64 ≤ len
sizes_long count len h = sector_long len (and_parts (nat_le MIN_SECTORS count && nat_le count MAX_SECTORS) (is_sector_size len) h).1

pub sizes_room : (count len : ℕ) → is_geometry count len ≡ true → 4 ≤ len
sizes_room count len h = let long = sizes_long count len h in omega arith

pub sizes_some : (count len : ℕ) → is_geometry count len ≡ true → 1 ≤ len
sizes_some count len h = let long = sizes_long count len h in omega arith
