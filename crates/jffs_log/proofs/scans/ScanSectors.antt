-- The sectors of an image are read one after another.
use Rattle.std.proofs.Common.{◌≡◌, ℕ, zero, suc, ◌+◌, ◌-◌, ◌*◌, ◌<◌, List, [], ◌∷◌, ◌++◌, length, take, drop, map, Option, Some, None, refl, sym, ap, subst, ◌∙◌, arith, below_more}
use Rattle.std.specs.List.{enumerate_from, AllByRecursion}
use Rattle.std.proofs.lemmas.List.{drop-drop, map-append}
use Rattle.std.proofs.lemmas.Option.{none-some}
use Rattle.jffs_node.specs.declared.read.Read.{Read}
use Rattle.jffs_node.specs.declared.read.Read.TheVariants.{Closed, Free, Torn, Bad}
use Rattle.jffs_node.specs.Reading.{reading_len}
use Rattle.jffs_log.specs.declared.scanning.ScanWhy.{ScanWhy}
use Rattle.jffs_log.specs.declared.scanning.ScanWhy.TheVariants.{Geometry, Device, BadRecord, NoErased, Scattered, BadOrder, BadTree, Memory}
use Rattle.jffs_log.specs.Image.{Sector, sector_of}
use Rattle.jffs_log.specs.Volume.{split, sector_bytes, sectors_in}
use Rattle.jffs_log.specs.Live.{IsGoodEnding}
use Rattle.jffs_log.specs.Scan.{first_bad, bad_record}
use Rattle.jffs_log.specs.ScanRead.{IsSpelled, AreRead, IsReadFault, bad_in}
use Rattle.jffs_log.proofs.ring.Ring.{Numbered}
use Rattle.jffs_log.proofs.append.Open.{length-sectors_in}

-- The sectors before one, that one, and those after it.
split_parts : (n k more len : ℕ) (image : List ℕ) → n ≡ k + more → split n len image ≡ split k len image ++ split more len (drop (k * len) image)
split_parts n zero more len image is =
    let none : 0 ≡ 0 * len = omega arith in
    let same : n ≡ more = omega arith in
    ap (λ j. split j len image) same ∙ ap (λ j. split more len (drop j image)) none
split_parts zero (suc k) more len image is = absurd (omega arith)
split_parts (suc n) (suc k) more len image is =
    let there : len + k * len ≡ suc k * len = omega arith in
    ap (λ (xs : List (List ℕ)). take len image ∷ xs)
    (split_parts n k more len (drop len image) (omega arith)
    ∙ ap (λ (xs : List ℕ). split k len (drop len image) ++ split more len xs) (drop-drop (k * len) len image ∙ ap (λ j. drop j image) there))

parts_in : (n k more len : ℕ) (image : List ℕ) → n ≡ k + suc more
    → sectors_in n len image ≡ sectors_in k len image ++ sector_of (sector_bytes len k image) ∷ sectors_in more len (drop len (drop (k * len) image))
parts_in n k more len image is =
    ap (map sector_of) (split_parts n k (suc more) len image is)
    ∙ map-append sector_of (split k len image) (split (suc more) len (drop (k * len) image))

enumerate_push : (a : ℕ) (xs : List Sector) (x : Sector) → enumerate_from a (xs ++ x ∷ []) ≡ enumerate_from a xs ++ (a + length xs, x) ∷ []
enumerate_push a [] x = let same : a ≡ a + 0 = omega arith in ap (λ (j : ℕ). (j, x) ∷ []) same
enumerate_push a (y ∷ xs) x =
    let same : a + 1 + length xs ≡ a + length (y ∷ xs) = omega arith in
    ap (λ (zs : List Numbered). (a, y) ∷ zs) (enumerate_push (a + 1) xs x ∙ ap (λ (j : ℕ). enumerate_from (a + 1) xs ++ (j, x) ∷ []) same)

-- The first bad record.
abbrev or_later : Option ScanWhy → Option ScanWhy → Option ScanWhy
or_later None later = later
or_later (Some why) later = Some why

bad_or_later : (k at : ℕ) (r : Read) (later : Option ScanWhy) → bad_record k at r later ≡ or_later (bad_record k at r None) later
bad_or_later k at (Closed n len) later = refl
bad_or_later k at Free later = refl
bad_or_later k at Torn later = refl
bad_or_later k at (Bad why) later = refl

neither : (a b : Option ScanWhy) → or_later a b ≡ None → (a ≡ None) × (b ≡ None)
neither None b h = (refl, h)
neither (Some why) b h = cc

sound_ending : (k at : ℕ) (r : Read) → bad_record k at r None ≡ None → IsGoodEnding r
sound_ending k at (Closed n len) h = tt
sound_ending k at Free h = tt
sound_ending k at Torn h = tt
sound_ending k at (Bad why) h = absurd (none-some (BadRecord k at why) (sym h))

first_parts : (k : ℕ) (s : Sector) (sectors : List Sector) → first_bad k (s ∷ sectors) ≡ or_later (bad_in (k, s)) (first_bad (k + 1) sectors)
first_parts k s sectors = bad_or_later k (reading_len s.reading) s.reading.ending (first_bad (k + 1) sectors)

first_append : (k : ℕ) (xs ys : List Sector) → first_bad k xs ≡ None → first_bad k (xs ++ ys) ≡ first_bad (k + length xs) ys
first_append k [] ys none = let same : k ≡ k + 0 = omega arith in ap (λ j. first_bad j ys) same
first_append k (s ∷ xs) ys none =
    let both = neither (bad_in (k, s)) (first_bad (k + 1) xs) (sym (first_parts k s xs) ∙ none) in
    let same : k + 1 + length xs ≡ k + length (s ∷ xs) = omega arith in
    first_parts k s (xs ++ ys)
    ∙ ap (λ o. or_later o (first_bad (k + 1) (xs ++ ys))) both.0
    ∙ first_append (k + 1) xs ys both.1
    ∙ ap (λ j. first_bad j ys) same

pub all_sound : (k : ℕ) (sectors : List Sector) → first_bad k sectors ≡ None → AllByRecursion (λ s. IsGoodEnding s.reading.ending) sectors
all_sound k [] none = tt
all_sound k (s ∷ sectors) none =
    let both = neither (bad_in (k, s)) (first_bad (k + 1) sectors) (sym (first_parts k s sectors) ∙ none) in
    (sound_ending k (reading_len s.reading) s.reading.ending both.0, all_sound (k + 1) sectors both.1)

first_at : (len k : ℕ) (image : List ℕ) (sectors : List Sector) (ys : List Sector) → sectors ≡ sectors_in k len image ++ sector_of (sector_bytes len k image) ∷ ys → first_bad 0 (sectors_in k len image) ≡ None
    → first_bad 0 sectors ≡ or_later (bad_in (k, sector_of (sector_bytes len k image))) (first_bad (k + 1) ys)
first_at len k image sectors ys is none =
    let s = sector_of (sector_bytes len k image) in
    let at : 0 + length (sectors_in k len image) ≡ k = let e = length-sectors_in k len image in omega arith in
    ap (first_bad 0) is
    ∙ first_append 0 (sectors_in k len image) (s ∷ ys) none
    ∙ ap (λ j. first_bad j (s ∷ ys)) at
    ∙ first_parts k s ys

-- After one more sector, and where one is bad.
pub one_read : (k len : ℕ) (image : List ℕ) (found next : List Numbered) (s : Numbered) → AreRead k len image found → s ≡ (k, sector_of (sector_bytes len k image)) → bad_in s ≡ None
    → IsSpelled (sector_bytes len k image) → next ≡ found ++ s ∷ [] → AreRead (k + 1) len image next
one_read k len image found next s h is sound spelled pushed =
    let t = sector_of (sector_bytes len k image) in
    let at : 0 + length (sectors_in k len image) ≡ k = let e = length-sectors_in k len image in omega arith in
    let parts = parts_in (k + 1) k 0 len image (omega arith) in
    record {
      read =
          pushed
          ∙ ap (λ (xs : List Numbered). xs ++ s ∷ []) h.read
          ∙ ap (λ (x : Numbered). enumerate_from 0 (sectors_in k len image) ++ x ∷ []) (is ∙ ap (λ (j : ℕ). (j, t)) (sym at))
          ∙ sym (enumerate_push 0 (sectors_in k len image) t)
          ∙ ap (enumerate_from 0) (sym parts);
      none = first_at len k image (sectors_in (k + 1) len image) [] parts h.none ∙ ap (λ o. or_later o None) (ap bad_in (sym is) ∙ sound);
      spelled = below_more (λ j. IsSpelled (sector_bytes len j image)) k h.spelled spelled;
    }

pub bad_read : (count k len : ℕ) (image : List ℕ) (found : List Numbered) (why : ScanWhy) → k < count → AreRead k len image found → bad_in (k, sector_of (sector_bytes len k image)) ≡ Some why
    → first_bad 0 (sectors_in count len image) ≡ Some why
bad_read count k len image found why below h bad =
    let more = count - k - 1 in
    let after = sectors_in more len (drop len (drop (k * len) image)) in
    let is : count ≡ k + suc more = omega arith in
    first_at len k image (sectors_in count len image) after (parts_in count k more len image is) h.none ∙ ap (λ o. or_later o (first_bad (k + 1) after)) bad

-- What holds of each sector holds of all.
pub all_split : (P : List ℕ → Type 0) (count len : ℕ) (image : List ℕ) → ((k : ℕ) → k < count → P (sector_bytes len k image)) → AllByRecursion P (split count len image)
all_split P zero len image h = tt
all_split P (suc more) len image h =
    let none : 0 * len ≡ 0 = omega arith in (
      subst P (ap (λ j. take len (drop j image)) none) (h 0 (omega arith)),
      all_split P more len (drop len image) (λ k below.
          let there : len + k * len ≡ suc k * len = omega arith in
          subst P (ap (take len) (sym (drop-drop (k * len) len image ∙ ap (λ j. drop j image) there))) (h (suc k) (omega arith))),
    )

-- The same cause, of more sectors.
pub fault_read : (why : ScanWhy) (before after : ℕ) (one all : Option ScanWhy) → (one ≡ Some why → all ≡ Some why) → IsReadFault why before after one → IsReadFault why before after all
fault_read Device before after one all same h = h
fault_read Memory before after one all same h = h
fault_read Geometry before after one all same h = (same h.0, h.1)
fault_read (BadRecord sector offset bad) before after one all same h = (same h.0, h.1)
fault_read NoErased before after one all same h = (same h.0, h.1)
fault_read Scattered before after one all same h = (same h.0, h.1)
fault_read BadOrder before after one all same h = (same h.0, h.1)
fault_read BadTree before after one all same h = (same h.0, h.1)
