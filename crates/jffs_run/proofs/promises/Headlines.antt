-- Lemmas for what a run promises.
use Rattle.std.proofs.Common.{◌≡◌, ◌≢◌, ℕ, ◌+◌, ◌≤◌, ◌<◌, ◌⊎◌, inl, inr, Bool, List, [], ◌∷◌, ◌++◌, length, take, map, refl, sym, ◌∙◌, ap, ap₂, subst, arith, eqb, cond, zero, suc, Option}
use Rattle.std.specs.List.{All, Contains, range_with_len}
use Rattle.std.proofs.lemmas.Bool.{cond-true, cond-false, eq-eqb, ne_eqb}
use Rattle.std.proofs.lemmas.Bool.Decides.{eqb_tells}
use Rattle.std.proofs.lemmas.List.{map-append, length-map}
use Rattle.std.proofs.lemmas.List.Elements.{All-head, All-tail}
use Rattle.jffs_tree.specs.declared.wish.Wish.TheVariants.{Unmount}
use Rattle.jffs_line.specs.Line.{senders}
use Rattle.jffs_line.specs.declared.request.Request.{Request}
use Rattle.jffs_line.specs.Requests.{of, request, IsNumbered}
use Rattle.jffs_line.specs.declared.hand.Hand as Hand
use Rattle.jffs_line.specs.declared.hand.Hands.{Hands}
use Rattle.jffs_line.specs.Settling.{all_hands}
use Rattle.jffs_serve.specs.declared.session.Served.{Served}
use Rattle.jffs_serve.specs.Replies.{Reply, AllReply, answer_in, any_closed, FitsServed}
use Rattle.jffs_serve.specs.Stopping.{EndsAs}
use Rattle.jffs_text.specs.declared.script.Writer.{Writer}
use Rattle.jffs_text.specs.declared.script.ReaderStatement.{ReaderStatement}
use Rattle.jffs_run.specs.declared.reader.ReaderEnd.{ReaderEnd}
use Rattle.jffs_run.specs.Looking.{HaveSeen}
use Rattle.jffs_text.specs.Wishes.{wishes_of}
use Rattle.jffs_run.specs.Numbered.{numbered}
use Rattle.jffs_run.specs.Ends.{EachFrom, AskForCopies, commands_at, accepted_by, HandedIn, HandedInAll}
use Rattle.jffs_flash.specs.Device.{Device}
use Rattle.jffs_flash.specs.Wear.{Wear}
use Rattle.jffs_core.specs.Past.{IsLeftBy}
use Rattle.jffs_run.specs.Account.{Account}
use Rattle.jffs_run.specs.Headline.{IsRun, requests_in, numbers_of}
use Rattle.jffs_node.specs.declared.node.Node.{Node}
use Rattle.jffs_core.specs.CoreState.{CoreState}
use Rattle.jffs_core.specs.Past.{Represents}
use Rattle.jffs_core.specs.declared.answer.Answer.{Answer}
use Rattle.jffs_log.specs.LogIndex.{HasSizes}
use Rattle.jffs_serve.specs.Chain.{RunsTo}
use Rattle.jffs_serve.specs.Answered.{ErasesSince}

abbrev seqs : List Request → List ℕ
seqs requests = map (λ (r : Request). r.seq) requests

-- the numbers of a sender's answers are those of its requests
same_numbers : (sender : ℕ) (replies : List Reply) → AllReply replies → numbers_of sender (map answer_in replies) ≡ seqs (of sender (requests_in replies))
same_numbers sender [] all = refl
same_numbers sender (reply ∷ replies) all =
    let rest = same_numbers sender replies all.2 in
    let writer : reply.step.writer ≡ reply.request.writer = all.0.0 in
    let seq : reply.step.seq ≡ reply.request.seq = all.0.1 in
    elim (eqb_tells reply.request.writer sender) [
      | inl same ↦
          ap (λ (w : ℕ). cond (eqb w sender) (reply.step.seq ∷ numbers_of sender (map answer_in replies)) (numbers_of sender (map answer_in replies))) writer
          ∙ (cond-true _ _ _ same.0
          ∙ (ap₂ (λ (n : ℕ) (ns : List ℕ). n ∷ ns) seq rest
          ∙ sym (ap (λ (b : Bool). seqs (cond b (reply.request ∷ of sender (requests_in replies)) (of sender (requests_in replies)))) same.0)))
      | inr other ↦
          ap (λ (w : ℕ). cond (eqb w sender) (reply.step.seq ∷ numbers_of sender (map answer_in replies)) (numbers_of sender (map answer_in replies))) writer
          ∙ (cond-false _ _ _ other.0
          ∙ (rest
          ∙ sym (ap (λ (b : Bool). seqs (cond b (reply.request ∷ of sender (requests_in replies)) (of sender (requests_in replies)))) other.0)))
    ]

-- the first of numbers that are counted are counted
pub counted_first : (n count : ℕ) (xs ys : List ℕ) → xs ++ ys ≡ range_with_len n count → xs ≡ range_with_len n (length xs)
counted_first n count [] ys is = refl
counted_first n zero (x ∷ xs) ys is = absurd cc
counted_first n (suc count) (x ∷ xs) ys is =
    let first : x ≡ n = cc in
    let rest : xs ++ ys ≡ range_with_len (n + 1) count = cc in
    ap (λ (k : ℕ). k ∷ xs) first ∙ ap (λ (tail : List ℕ). n ∷ tail) (counted_first (n + 1) count xs ys rest)

-- the numbers of a writers' hands and those after them
pub split_senders : {H : Type 0} (sender : H → ℕ) (a n : ℕ) (hands tail : List H) (others : List ℕ)
    → length hands ≡ n → map sender (hands ++ tail) ≡ range_with_len a n ++ others
    → EachFrom (λ slot hand. sender hand ≡ slot + a) 0 hands × (map sender tail ≡ others)
split_senders {H} sender a n hands tail others count is = by 0 a n hands (omega arith) count is
  where
    by : (slot at n : ℕ) (hands : List H) → at ≡ slot + a → length hands ≡ n → map sender (hands ++ tail) ≡ range_with_len at n ++ others → EachFrom (λ slot hand. sender hand ≡ slot + a) slot hands × (map sender tail ≡ others)
    by slot at zero [] here count is = (tt, is)
    by slot at (suc n) [] here count is = absurd (omega arith)
    by slot at zero (hand ∷ hands) here count is = absurd (omega arith)
    by slot at (suc n) (hand ∷ hands) here count is =
        let first : sender hand ≡ at = cc in
        let rest : map sender (hands ++ tail) ≡ range_with_len (at + 1) n ++ others = cc in
        let more = by (slot + 1) (at + 1) n hands (omega arith) (omega arith) rest in
        ((first ∙ here, more.0), more.1)

module _ {H : Type 0} (g : Hand.Ghosts H) where
  -- the hand of the writer at this slot, with its number
  record AtSlot (script : List Writer) (slot : ℕ) (hand : H) : Type 0 where
    sender : g.sender hand ≡ slot + 1
    first : HandedIn g script slot hand

  at_slots : (script : List Writer) (n : ℕ) (hands : List H) → EachFrom (λ slot hand. g.sender hand ≡ slot + 1) n hands → EachFrom (HandedIn g script) n hands → EachFrom (AtSlot script) n hands
  at_slots script n [] numbers first = tt
  at_slots script n (hand ∷ hands) numbers first = (record { sender = numbers.0; first = first.0 }, at_slots script (n + 1) hands numbers.1 first.1)

  -- what the first of the hands accepted, where it is this sender's
  found : (sender : ℕ) (hand : H) (hands : List H) → g.sender hand ≡ sender → accepted_by g sender (hand ∷ hands) ≡ g.accepted hand
  found sender hand hands is = cond-true _ _ _ (eq-eqb (g.sender hand) sender is)

  -- where it isn't, the others'
  passed : (sender : ℕ) (hand : H) (hands : List H) → g.sender hand ≢ sender → accepted_by g sender (hand ∷ hands) ≡ accepted_by g sender hands
  passed sender hand hands not = cond-false _ _ _ (ne_eqb (g.sender hand) sender not)

  -- what the hand at a slot accepted is found by its sender
  accepted_at :
      (script : List Writer) (n : ℕ) (hands tail : List H) → EachFrom (AtSlot script) n hands
      → (slot : ℕ) → n ≤ slot → slot < n + length hands
      → (hand : H) × AtSlot script slot hand × (accepted_by g (slot + 1) (hands ++ tail) ≡ g.accepted hand) × (EachFrom (HandedInAll g script) n hands → HandedInAll g script slot hand)
  accepted_at script n [] tail each slot from below = absurd (let none : length {A = H} [] ≡ 0 = refl in omega arith)
  accepted_at script n (hand ∷ hands) tail each slot from below =
      elim (eqb_tells (g.sender hand) (slot + 1)) [
        | inl same ↦
            let here : n ≡ slot = let s = each.0.sender in let t = same.1 in omega arith in (
              hand,
              subst (λ (k : ℕ). AtSlot script k hand) here each.0,
              cond-true _ _ _ same.0,
              λ all. subst (λ (k : ℕ). HandedInAll g script k hand) here all.0,
            )
        | inr other ↦
            let later : n + 1 ≤ slot = let s = each.0.sender in let t = other.1 in omega arith in
            let below' : slot < (n + 1) + length hands = let c : length (hand ∷ hands) ≡ length hands + 1 = omega arith in omega arith in
            let rest = accepted_at script (n + 1) hands tail each.1 slot later below' in (
              rest.0,
              rest.1,
              cond-false _ _ _ other.0 ∙ rest.2,
              λ all. rest.3 all.1,
            )
      ]

  -- what a sender accepted that has none of these hands
  accepted_elsewhere :
      (script : List Writer) (n : ℕ) (hands tail : List H) → EachFrom (AtSlot script) n hands
      → (sender : ℕ) → ((slot : ℕ) → slot < n + length hands → sender ≢ slot + 1)
      → accepted_by g sender (hands ++ tail) ≡ accepted_by g sender tail
  accepted_elsewhere script n [] tail each sender other = refl
  accepted_elsewhere script n (hand ∷ hands) tail each sender other =
      elim (eqb_tells (g.sender hand) sender) [
        | inl same ↦ absurd (let s = each.0.sender in other n (let c : length (hand ∷ hands) ≡ length hands + 1 = omega arith in omega arith) (sym same.1 ∙ s))
        | inr differs ↦
            let rest = accepted_elsewhere script (n + 1) hands tail each.1 sender (λ slot below. other slot (let c : length (hand ∷ hands) ≡ length hands + 1 = omega arith in omega arith)) in
            cond-false _ _ _ differs.0 ∙ rest
      ]

  -- what was taken of any sender and then what waits is what it accepted
  each_settled :
      (answered waiting : List Request) (hands : List H)
      → All (λ hand. of (g.sender hand) answered ++ of (g.sender hand) waiting ≡ g.accepted hand) hands
      → (sender : ℕ) → ((Contains (map g.sender hands) sender → ⊥) → of sender answered ++ of sender waiting ≡ [])
      → of sender answered ++ of sender waiting ≡ accepted_by g sender hands
  each_settled answered waiting [] all sender others = others (λ there. absurd (let below = there.1 in omega arith))
  each_settled answered waiting (hand ∷ hands) all sender others =
      let P : H → Type 0 = λ h. of (g.sender h) answered ++ of (g.sender h) waiting ≡ g.accepted h in
      elim (eqb_tells (g.sender hand) sender) [
        | inl same ↦
            ap (λ (w : ℕ). of w answered ++ of w waiting) (sym same.1)
            ∙ (All-head P hand hands all ∙ sym (found sender hand hands same.1))
        | inr other ↦
            each_settled answered waiting hands (All-tail P hand hands all) sender
            (λ none. others (λ there. elim there.0 as (λ k. (k < length (map g.sender (hand ∷ hands))) → (k ≡ there.0) → ⊥) [
              | zero ↦ λ below is. other.1 (cc)
              | suc k ↦ λ below is. none (k, omega arith, cc)
            ] there.1 refl))
            ∙ sym (passed sender hand hands other.1)
      ]

  each_numbered : (hands : List H) → All (λ hand. IsNumbered (g.accepted hand)) hands → (sender : ℕ) → IsNumbered (accepted_by g sender hands)
  each_numbered [] all sender = refl
  each_numbered (hand ∷ hands) all sender =
      let P : H → Type 0 = λ h. IsNumbered (g.accepted h) in
      elim (eqb_tells (g.sender hand) sender) [
        | inl same ↦ subst IsNumbered (sym (found sender hand hands same.1)) (All-head P hand hands all)
        | inr other ↦ subst IsNumbered (sym (passed sender hand hands other.1)) (each_numbered hands (All-tail P hand hands all) sender)
      ]

  -- the account of a run with these hands
  abbrev pub account_with : List Writer → Option ℕ → List ReaderStatement → Hands H → List Answer → List Request → List ReaderEnd → Served → Device → Wear → Account
  account_with script rounds statements hands answers waiting ends served device wear = record {
    script = script;
    cleaner = rounds;
    statements = statements;
    accepted = λ sender. accepted_by g sender (all_hands hands);
    answers = answers;
    waiting = waiting;
    ends = ends;
    served = served;
    device = device;
    wear = wear;
  }

  -- what all threads did makes a run
  pub is_run :
      (start core : CoreState) (script : List Writer) (rounds : Option ℕ) (statements : List ReaderStatement) (hands : Hands H) (replies : List Reply) (waiting : List Request) (ends : List ReaderEnd) (served : Served) (device : Device) (wear : Wear)
      → length script ≤ 8 → length hands.writers.items ≡ length script
      → map g.sender (all_hands hands) ≡ senders (length script)
      → EachFrom (HandedIn g script) 0 hands.writers.items
      → (g.accepted hands.control.hand ≡ []) ⊎ EachFrom (HandedInAll g script) 0 hands.writers.items
      → AskForCopies rounds (g.accepted hands.cleaner)
      → (g.accepted hands.control.hand ≡ []) ⊎ (g.accepted hands.control.hand ≡ request (g.sender hands.control.hand) 1 Unmount ∷ [])
      → AllReply replies
      → All (λ hand. of (g.sender hand) (requests_in replies) ++ of (g.sender hand) waiting ≡ g.accepted hand) (all_hands hands)
      → All (λ hand. IsNumbered (g.accepted hand)) (all_hands hands)
      → ((sender : ℕ) → (Contains (map g.sender (all_hands hands)) sender → ⊥) → of sender (requests_in replies) ++ of sender waiting ≡ [])
      → HaveSeen (record { opening = start.tree; steps = map (λ (r : Reply). r.step) replies }) statements ends
      → HasSizes start.index.sectors start.index.sector_size core.index → ErasesSince start (length replies) core
      → IsLeftBy core device → wear ≡ core.wear → ((mounted past : List Node) → Represents mounted past start → RunsTo start core mounted past replies)
      → FitsServed served (any_closed (map answer_in replies)) replies → EndsAs served replies
      → IsRun start (account_with script rounds statements hands (map answer_in replies) waiting ends served device wear)
  is_run start core script rounds statements hands replies waiting ends served device wear eight count numbers first whole copies unmounts replied settled counted others seen sizes erases left worn lawful ending stops =
      let writers : List H = hands.writers.items in
      let tail : List H = hands.cleaner ∷ hands.control.hand ∷ [] in
      let accepted : ℕ → List Request = λ sender. accepted_by g sender (writers ++ tail) in
      let split = split_senders g.sender 1 (length script) writers tail (9 ∷ 10 ∷ []) count numbers in
      let nine : g.sender hands.cleaner ≡ 9 = let e = split.1 in cc in
      let ten : g.sender hands.control.hand ≡ 10 = let e = split.1 in cc in
      let placed = at_slots script 0 writers split.0 first in
      let at : (slot : ℕ) → slot < length script → (hand : H) × AtSlot script slot hand × (accepted (slot + 1) ≡ g.accepted hand) × (EachFrom (HandedInAll g script) 0 writers → HandedInAll g script slot hand) =
      λ slot below. accepted_at script 0 writers tail placed slot (omega arith) (let c = count in omega arith) in
      let elsewhere : (sender : ℕ) → ((slot : ℕ) → slot < length script → sender ≢ slot + 1) → accepted sender ≡ accepted_by g sender tail =
      λ sender other. accepted_elsewhere script 0 writers tail placed sender (λ slot below. other slot (let c = count in omega arith)) in
      let cleaner_is : accepted 9 ≡ g.accepted hands.cleaner =
      elsewhere 9 (λ slot below nine_is. absurd (omega arith)) ∙ found 9 hands.cleaner (hands.control.hand ∷ []) nine in
      let control_is : accepted 10 ≡ g.accepted hands.control.hand =
      elsewhere 10 (λ slot below ten_is. absurd (omega arith))
      ∙ (passed 10 hands.cleaner (hands.control.hand ∷ []) (λ is. absurd (omega arith)) ∙ found 10 hands.control.hand [] ten) in
      let each : (sender : ℕ) → of sender (requests_in replies) ++ of sender waiting ≡ accepted sender =
      λ sender. each_settled (requests_in replies) waiting (all_hands hands) settled sender (others sender) in
      record {
        seen = seen;
        ending = ending;
        ends = stops;
        core = core;
        left = left;
        worn = worn;
        sizes = sizes;
        erases = erases;
        lawful = lawful;
        replies = replies;
        each_replies = replied;
        answers_are = refl;
        each = each;
        numbers = λ sender.
            let mine : List Request = of sender (requests_in replies) in
            let both : seqs mine ++ seqs (of sender waiting) ≡ range_with_len 1 (length (accepted sender)) =
            sym (map-append (λ (r : Request). r.seq) mine (of sender waiting)) ∙ (ap seqs (each sender) ∙ each_numbered (all_hands hands) counted sender) in
            let begins = counted_first 1 (length (accepted sender)) (seqs mine) (seqs (of sender waiting)) both in
            same_numbers sender replies replied ∙ (begins ∙ ap (range_with_len 1) (length-map mine (λ (r : Request). r.seq)));
        writers = λ slot below.
            let it = at slot below in
            let written : g.accepted it.0 ≡ numbered (slot + 1) 1 (take (length (g.accepted it.0)) (wishes_of (commands_at script slot))) =
            it.1.first ∙ ap (λ (w : ℕ). numbered w 1 (take (length (g.accepted it.0)) (wishes_of (commands_at script slot)))) it.1.sender in
            it.2 ∙ (written ∙ ap (λ (k : ℕ). numbered (slot + 1) 1 (take k (wishes_of (commands_at script slot)))) (ap (length {A = Request}) (sym it.2)));
        offered = elim whole [
          | inl idle ↦ inl (control_is ∙ idle)
          | inr handed ↦ inr (λ slot below. let it = at slot below in ap (length {A = Request}) it.2 ∙ it.3 handed)
        ];
        control = elim unmounts [
          | inl none ↦ inl (control_is ∙ none)
          | inr one ↦ inr (control_is ∙ (one ∙ ap (λ (w : ℕ). request w 1 Unmount ∷ []) ten))
        ];
        cleaner = subst (AskForCopies rounds) (sym cleaner_is) copies;
        others = λ sender other not_nine not_ten. elsewhere sender other
            ∙ (passed sender hands.cleaner (hands.control.hand ∷ []) (λ is. not_nine (sym is ∙ nine)) ∙ passed sender hands.control.hand [] (λ is. not_ten (sym is ∙ ten)));
      }
