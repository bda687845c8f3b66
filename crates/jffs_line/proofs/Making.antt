-- The making of a shared line.
use Rattle.std.proofs.Common.{◌≡◌, ◌≢◌, ℕ, zero, suc, ◌+◌, ◌-◌, ◌<◌, ◌≤◌, true, List, [], ◌∷◌, ◌++◌, map, drop, refl, sym, ap, ap₂, ◌∙◌, subst, map-id, arith}
use Rattle.std.specs.List.{All, range_with_len}
use Rattle.std.proofs.lemmas.List.{map-append}
use Rattle.std.proofs.lemmas.List.Elements.{All-nil, All-cons, All-weaker}
use Rattle.std.proofs.lemmas.List.FromFn.{map-range_with_len_more}
use mathlib.Core.List.{map-map}
use Rattle.jffs_line.specs.declared.knows.Sent.{Sent}
use Rattle.jffs_line.specs.declared.knows.Knows.{Knows}
use Rattle.jffs_line.specs.declared.shared.SharedHand.{SharedHand}
use Rattle.jffs_line.specs.InOrder.{knows, sent_by, silent, without_first, BeginsWith}
use Rattle.jffs_line.specs.Line.{Line, End, senders}
use Rattle.jffs_line.specs.Shared.{shared_end}

silent_from : (w n : ℕ) → All (λ (s : Sent). w ≤ s.sender) (silent w n)
silent_from w zero = All-nil (λ (s : Sent). w ≤ s.sender)
silent_from w (suc n) =
    All-cons (λ (s : Sent). w ≤ s.sender) (sent_by w []) (silent (w + 1) n) (omega arith)
    (All-weaker (λ (s : Sent). w + 1 ≤ s.sender) (λ (s : Sent). w ≤ s.sender) (λ s h. omega arith) (silent (w + 1) n) (silent_from (w + 1) n))

silent_more : (i : ℕ) → i < 8 → silent (i + 1) (8 - i) ≡ sent_by (i + 1) [] ∷ silent (i + 1 + 1) (8 - (i + 1))
silent_more i h = let e : 8 - i ≡ suc (8 - (i + 1)) = omega arith in ap (silent (i + 1)) e

-- the next writer's entry stands first, and no later one is of that writer
pub begins_next : (i : ℕ) (v : Knows) → i < 8 → v ≡ knows true [] (silent (i + 1) (8 - i)) → BeginsWith (i + 1) v
begins_next i v h is =
    let P : Sent → Type 0 = λ s. s.sender ≢ i + 1 in
    let rest : List Sent = silent (i + 1 + 1) (8 - (i + 1)) in
    let far : All P rest = All-weaker (λ (s : Sent). i + 1 + 1 ≤ s.sender) P (λ s far same. omega arith) rest (silent_from (i + 1 + 1) (8 - (i + 1))) in
    subst (λ (u : Knows). BeginsWith (i + 1) u) (sym (is ∙ ap (λ (l : List Sent). knows true [] l) (silent_more i h))) (record { first = refl; once = far })

pub rest_next : (i : ℕ) (v w : Knows) → i < 8 → v ≡ knows true [] (silent (i + 1) (8 - i)) → w ≡ without_first v → w ≡ knows true [] (silent (i + 1 + 1) (8 - (i + 1)))
rest_next i v w h is cut = cut ∙ ap without_first is ∙ ap (λ (l : List Sent). knows true [] (drop 1 l)) (silent_more i h)

module _ (line : Line) where
  abbrev pub named : ℕ → End
  named w = (w, line)

  pub ends_more : (hs : List SharedHand) (h : SharedHand) (i : ℕ) → map shared_end hs ≡ map named (range_with_len 1 i) → shared_end h ≡ (i + 1, line)
      → map shared_end (hs ++ h ∷ []) ≡ map named (range_with_len 1 (i + 1))
  ends_more hs h i es e =
      map-append shared_end hs (h ∷ []) ∙ ap₂ (λ (a : List End) (b : End). a ++ b ∷ []) es e ∙ sym (map-range_with_len_more named 1 i (i + 1) (omega arith))

  pub ends_all : (hs : List SharedHand) (cleaner control : SharedHand) (n : ℕ) → map shared_end hs ≡ map named (range_with_len 1 n) → shared_end cleaner ≡ (9, line) → shared_end control ≡ (10, line)
      → map shared_end (hs ++ cleaner ∷ control ∷ []) ≡ map named (senders n)
  ends_all hs cleaner control n es e f =
      map-append shared_end hs (cleaner ∷ control ∷ []) ∙ ap (λ (l : List End). l ++ shared_end cleaner ∷ shared_end control ∷ []) es
      ∙ ap₂ (λ (a b : End). map named (range_with_len 1 n) ++ a ∷ b ∷ []) e f ∙ sym (map-append named (range_with_len 1 n) (9 ∷ 10 ∷ []))

pub numbers_all : (line : Line) (hs : List SharedHand) (n : ℕ) → map shared_end hs ≡ map (named line) (senders n) → map (λ (h : SharedHand). h.number) hs ≡ senders n
numbers_all line hs n e =
    sym (map-map (λ (x : End). x.0) shared_end hs) ∙ ap (map (λ (x : End). x.0)) e
    ∙ map-map (λ (x : End). x.0) (named line) (senders n) ∙ map-id (senders n)
