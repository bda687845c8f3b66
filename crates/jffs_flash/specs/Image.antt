-- What an image holds after a call. An image is one list of bytes.
use Rattle.std.specs.Prelude.{◌≡◌, ℕ, ◌+◌, ◌*◌, List, [], ◌∷◌, ◌++◌, length, take, drop, replicate}
use Rattle.std.specs.Int.Bits.{bit_and}

-- a byte after an erase: all its bits are ones
abbrev pub erased_byte : ℕ
erased_byte = 255

-- `len` bytes from the position `at` on
abbrev pub window : ℕ → ℕ → List ℕ → List ℕ
window at len image = take len (drop at image)

-- the image with other bytes from an offset on
abbrev pub replaced : ℕ → List ℕ → List ℕ → List ℕ
replaced at part image = take at image ++ part ++ drop (at + length part) image

-- programming turns bits from one to zero: a bit stays where it is one in both
abbrev pub both_bits : List ℕ → List ℕ → List ℕ
both_bits [] bytes = []
both_bits (o ∷ old) [] = []
both_bits (o ∷ old) (b ∷ bytes) = bit_and o b ∷ both_bits old bytes

-- the image after these bytes were programmed from an offset on
abbrev pub programmed : ℕ → List ℕ → List ℕ → List ℕ
programmed at bytes image = replaced at (both_bits (window at (length bytes) image) bytes) image

-- what may be left of a byte when its program fails, bit by bit: no bit is one that was zero, and
-- none is zero that was to stay
pub record IsBetween (old byte left : ℕ) : Type 0 where
  pub only : bit_and left old ≡ left
  pub kept : bit_and left (bit_and old byte) ≡ bit_and old byte

-- what may be left of several bytes
abbrev pub AreBetween : List ℕ → List ℕ → List ℕ → Type 0
AreBetween [] [] [] = Unit {0}
AreBetween (o ∷ old) (b ∷ bytes) (l ∷ left) = IsBetween o b l × AreBetween old bytes left
AreBetween _ _ _ = ⊥

-- a program that failed: its range was programmed in part, bit by bit
pub record IsHalfProgrammed (at : ℕ) (bytes old new : List ℕ) : Type 0 where
  pub left : List ℕ
  pub between : AreBetween (window at (length bytes) old) bytes left
  pub rest : new ≡ replaced at left old

-- an erase that failed: its sector holds any bytes
pub record IsHalfErased (at len : ℕ) (old new : List ℕ) : Type 0 where
  pub left : List ℕ
  pub long : length left ≡ len
  pub rest : new ≡ replaced at left old

-- the image after a sector was erased
abbrev pub erased : ℕ → ℕ → List ℕ → List ℕ
erased sector_len sector image =
    replaced (sector * sector_len) (replicate sector_len erased_byte) image
