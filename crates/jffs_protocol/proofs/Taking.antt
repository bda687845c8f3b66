-- What is taken from a reader, part after part.
use Rattle.std.proofs.Common.{◌≡◌, ◌≢◌, ◌≤◌, ◌∙◌, ◌+◌, ◌-◌, ℕ, Bool, true, false, List, [], ◌∷◌, ◌++◌, length, Option, refl, sym, ap, subst, take, drop, slice_range, length-append, length-take-le, append-nil, le_refl, arith}
use Rattle.std.specs.Io.KnownBytes.{Consumes, IsAtEnd}
use Rattle.std.proofs.Math.Seq.{take-add, take-append_seam}
use Rattle.std.proofs.lemmas.List.{drop_at, take-append-le}
use Rattle.std.proofs.lemmas.Slice.{take-put_mid_below}
use borrow.Rule.Slice.PartMut.{put_mid, post_of}
use Rattle.std.proofs.KnownBytes.{Consumes-trans, Consumes-nil}
use Rattle.std.proofs.lemmas.List.Elements.{All-append, All-cons, All-nil}
use Rattle.jffs_protocol.specs.Hearing.{line_feed, TakesPart, TakesMore, TakesLine, TakesSomeLine, TakesCutLine, TakesCount, TakesFew, TakesBytes}

-- some bytes more of a line
pub part_more : (a b c : Option (List ℕ)) (long longer : Bool) (line grown : List ℕ)
    → TakesPart a b long line → TakesMore b c long line longer grown → TakesPart a c longer grown
part_more a b c long longer line grown part more = record {
  bytes = part.bytes ++ more.bytes;
  taken = Consumes-trans a b c part.bytes more.bytes part.taken more.taken;
  one = All-append (λ x. x ≢ 10) part.bytes more.bytes part.one more.one;
  kept = λ e. (more.kept e).1 ∙ ap (λ l. l ++ more.bytes) (part.kept (more.kept e).0);
}

-- one byte more, which is no line feed
pub byte_more : (a b : Option (List ℕ)) (long longer : Bool) (line grown : List ℕ) (byte : ℕ)
    → Consumes a b (byte ∷ []) → byte ≢ 10
    → (longer ≡ false → (long ≡ false) × (grown ≡ line ++ byte ∷ [])) → TakesMore a b long line longer grown
byte_more a b long longer line grown byte takes other kept = record {
  bytes = byte ∷ [];
  taken = takes;
  one = All-cons (λ x. x ≢ 10) byte [] other (All-nil (λ x. x ≢ 10));
  kept = kept;
}

-- and then its line feed
pub line_ended : (a b c : Option (List ℕ)) (long : Bool) (line : List ℕ) → TakesPart a b long line → Consumes b c line_feed
    → TakesSomeLine a c
line_ended a b c long line part takes = record {
  line = part.bytes;
  takes = record { one = part.one; taken = Consumes-trans a b c part.bytes line_feed part.taken takes };
}

-- which is kept, if it isn't too long
pub line_kept : (a b c : Option (List ℕ)) (line : List ℕ) → TakesPart a b false line → Consumes b c line_feed
    → TakesLine a c line
line_kept a b c line part takes =
    subst (λ (l : List ℕ). TakesLine a c l) (sym (part.kept refl))
    (record { one = part.one; taken = Consumes-trans a b c part.bytes line_feed part.taken takes })

-- no bytes
pub count_none : (a : Option (List ℕ)) (n : ℕ) → n ≡ 0 → TakesCount a a n
count_none a n e = record { bytes = []; taken = Consumes-nil a; counted = sym e }

-- some bytes more
pub count_more : (a b c : Option (List ℕ)) (m n : ℕ) (bs : List ℕ)
    → TakesCount a b m → Consumes b c bs → n ≡ m + length bs → TakesCount a c n
count_more a b c m n bs so takes e = record {
  bytes = so.bytes ++ bs;
  taken = Consumes-trans a b c so.bytes bs so.taken takes;
  counted = length-append so.bytes bs ∙ ap (λ k. k + length bs) so.counted ∙ sym e;
}

-- some bytes more, and then the end before all
pub count_few : (a b c : Option (List ℕ)) (m n k : ℕ) → TakesCount a b m → TakesFew b c n → m + n ≤ k → TakesFew a c k
count_few a b c m n k so few fits =
    let many = so.counted in
    let less = few.few in
    record {
      bytes = so.bytes ++ few.bytes;
      taken = Consumes-trans a b c so.bytes few.bytes so.taken few.taken;
      few = omega (arith, many, less, length-append so.bytes few.bytes);
      ended = few.ended;
    }

-- the begin of a line, and then the end
pub line_cut : (a b c : Option (List ℕ)) (long : Bool) (line : List ℕ) → TakesPart a b long line → Consumes b c [] × IsAtEnd c
    → TakesCutLine a c
line_cut a b c long line part none = record {
  bytes = part.bytes;
  one = part.one;
  taken = subst (λ (l : List ℕ). Consumes a c l) (append-nil part.bytes) (Consumes-trans a b c part.bytes [] part.taken none.0);
  ended = none.1;
}

take_split : (at to : ℕ) (old new : List ℕ) → at ≤ to → take at new ≡ take at old → take at old ++ slice_range new at to ≡ take to new
take_split at to old new h front =
    let same : at + (to - at) ≡ to = omega arith in
    ap (λ l. l ++ slice_range new at to) (sym front) ∙ sym (take-add at (to - at) new) ∙ ap (λ n. take n new) same

slice_range-put_mid : (at k n : ℕ) (old part : List ℕ) → at ≤ length old → n ≤ length part → slice_range (put_mid at k old part) at (at + n) ≡ take n part
slice_range-put_mid at k n old part within fits =
    let same : (at + n) - at ≡ n = omega arith in
    let after = post_of at k old in
    ap (take ((at + n) - at)) (drop_at (take at old) (part ++ after) at (length-take-le at old within)) ∙ ap (λ m. take m (part ++ after)) same ∙ take-append-le n part after fits

-- what was read into the rest of a slice is taken with what stands before it
pub read_more : (at k n : ℕ) (old part : List ℕ) (a b c : Option (List ℕ)) → at ≤ length old → n ≤ length part → Consumes a b (take at old)
    → Consumes b c (take n part) → Consumes a c (take (at + n) (put_mid at k old part))
read_more at k n old part a b c within fits so takes =
    let joined : take at old ++ take n part ≡ take (at + n) (put_mid at k old part) =
    ap (λ l. take at old ++ l) (sym (slice_range-put_mid at k n old part within fits))
    ∙ take_split at (at + n) old (put_mid at k old part) (omega arith) (take-put_mid_below at k old part at (le_refl at) within) in
    subst (λ (l : List ℕ). Consumes a c l) joined (Consumes-trans a b c _ _ so takes)

-- what was read into all of a vector is what it holds
pub filled : (all : Bool) (len : ℕ) (given old : List ℕ) (a b : Option (List ℕ)) (m n : ℕ) → length given ≡ len → len ≡ n → m ≡ n
    → TakesBytes all a b m given → TakesBytes all a b n (take len (given ++ drop (length given) old))
filled false len given old a b m n p q r t = subst (λ (k : ℕ). TakesFew a b k) r t
filled true len given old a b m n p q r t =
    let e : take len (given ++ drop (length given) old) ≡ given =
    ap (λ k. take k (given ++ drop (length given) old)) (sym p) ∙ take-append_seam given (drop (length given) old) in
    (ap length e ∙ p ∙ q, subst (λ l. Consumes a b l) (sym e) t.1)
