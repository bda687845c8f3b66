-- One more accepted request has the next number.
use Rattle.std.proofs.Common.{◌≡◌, ℕ, ◌+◌, List, [], ◌∷◌, ◌++◌, map, sym, ap, ap₂, ◌∙◌}
use Rattle.std.specs.List.{range_with_len}
use Rattle.std.proofs.lemmas.List.{map-append}
use Rattle.jffs_line.specs.declared.request.Request.{Request}
use Rattle.jffs_line.specs.declared.rings.Note.{Note}
use Rattle.jffs_line.specs.declared.knows.Knows.{Knows}
use Rattle.jffs_line.specs.InOrder.{hand_knows, accepted_of, first_accepted, sent_by, HandsIn}
use Rattle.jffs_line.proofs.Lists.{range_more}

abbrev seqs : List Request → List ℕ
seqs rs = map (λ (r : Request). r.seq) rs

more : (ns : List ℕ) (k n : ℕ) → ns ≡ range_with_len 1 n → k ≡ n + 1 → ns ++ k ∷ [] ≡ range_with_len 1 (n + 1)
more ns k n e f = ap₂ (λ (ms : List ℕ) (m : ℕ). ms ++ m ∷ []) e f ∙ sym (range_more n)

-- what a hand's pass knows after a request was handed in
pub accepted-handed_in : (v u : Knows) (x : Request) (w : ℕ) → v ≡ hand_knows w (accepted_of v) → HandsIn v x u → accepted_of u ≡ accepted_of v ++ x ∷ []
accepted-handed_in v u x w known handed =
    ap accepted_of handed ∙ ap (λ (k : Knows). first_accepted (map (λ s. sent_by s.sender (s.accepted ++ x ∷ [])) k.sent)) known

pub seqs-handed_in : (v u : Knows) (x : Request) (w n : ℕ) → v ≡ hand_knows w (accepted_of v) → HandsIn v x u
    → seqs (accepted_of v) ≡ range_with_len 1 n → x.seq ≡ n + 1 → seqs (accepted_of u) ≡ range_with_len 1 (n + 1)
seqs-handed_in v u x w n known handed e f =
    ap seqs (accepted-handed_in v u x w known handed) ∙ map-append (λ (r : Request). r.seq) (accepted_of v) (x ∷ []) ∙ more (seqs (accepted_of v)) x.seq n e f

pub seqs-pushed : (ns : List Note) (x : Note) (n : ℕ) → map (λ (a : Note). a.seq) ns ≡ range_with_len 1 n → x.seq ≡ n + 1
    → map (λ (a : Note). a.seq) (ns ++ x ∷ []) ≡ range_with_len 1 (n + 1)
seqs-pushed ns x n e f = map-append (λ (a : Note). a.seq) ns (x ∷ []) ∙ more (map (λ (a : Note). a.seq) ns) x.seq n e f
