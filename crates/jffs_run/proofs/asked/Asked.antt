-- What a run answered is what its script asks for, also where it was given up.
use Rattle.std.proofs.Common.{◌≡◌, ◌≢◌, ◌⊎◌, inl, inr, ℕ, zero, suc, ◌+◌, ◌<◌, List, [], ◌∷◌, ◌++◌, length, take, map, get_or, refl, sym, ◌∙◌, ap, ap₂, subst, arith, Option, None}
use Rattle.std.specs.List.{All, Contains, range_with_len}
use Rattle.std.proofs.lemmas.List.{map-append, length-map}
use Rattle.std.proofs.lemmas.List.Elements.{All-nil, All-cons, All-head, All-tail, All-append}
use Rattle.std.proofs.lemmas.List.FromFn.{length-range_with_len, get_or-range_with_len}
use mathlib.Core.List.{append-eq-nil_iff}
use Rattle.jffs_node.proofs.Each.{each_front}
use Rattle.jffs_tree.specs.declared.wish.Wish.{Wish}
use Rattle.jffs_tree.specs.declared.wish.Wish.TheVariants.{Unmount}
use Rattle.jffs_line.specs.Line.{senders}
use Rattle.jffs_line.specs.declared.request.Request.{Request}
use Rattle.jffs_line.specs.Requests.{of, request, IsNumbered}
use Rattle.jffs_line.specs.declared.hand.Hand as Hand
use Rattle.jffs_line.specs.declared.hand.Hands.{Hands}
use Rattle.jffs_line.specs.Settling.{all_hands, WasSettled}
use Rattle.jffs_line.proofs.Lists.{All-left, All-right}
use Rattle.jffs_core.specs.CoreState.{CoreState}
use Rattle.jffs_core.specs.declared.answer.Answer.{Answer}
use Rattle.jffs_index.specs.declared.step.Step.{Step}
use Rattle.jffs_serve.specs.Copies.{IsCopy}
use Rattle.jffs_serve.specs.declared.session.PendingStep.{PendingStep}
use Rattle.jffs_serve.specs.declared.session.Unmounted.{Unmounted}
use Rattle.jffs_serve.specs.Replies.{Reply, answer_in}
use Rattle.jffs_serve.specs.Stopping.{StopsAt}
use Rattle.jffs_serve.specs.Answered.{Start, HasReplied}
use Rattle.jffs_serve.proofs.Chains.{runs_from}
use Rattle.jffs_serve.proofs.Erasing.{since_start}
use Rattle.jffs_text.specs.declared.script.Writer.{Writer}
use Rattle.jffs_text.specs.Wishes.{wishes_of}
use Rattle.jffs_run.specs.declared.crew.Crew.{Crew}
use Rattle.jffs_run.specs.declared.fault.RunWhy.{RunWhy}
use Rattle.jffs_run.specs.declared.fault.RunWhy.TheVariants.{Mount}
use Rattle.jffs_run.specs.Numbered.{numbered}
use Rattle.jffs_run.specs.Ends.{EachFrom, HandedIn, AreCopies, commands_at}
use Rattle.jffs_run.specs.Crew.{HasHandedIn, crew_hands}
use Rattle.jffs_run.specs.Faults.{AskedBy, GivesBack, IsLeftWith, LeftByRun, Rest}
use Rattle.jffs_run.specs.Headline.{requests_in}
use Rattle.jffs_run.proofs.promises.Headlines.{split_senders, counted_first}
use Rattle.jffs_run.proofs.ends.Runs.{same_senders, count_writers}
use Rattle.jffs_run.proofs.ends.Faults.{IsLater, gives_back_so}
use Rattle.jffs_run.specs.declared.fault.RunFault.{RunFault}
use Rattle.jffs_flash.specs.declared.flash.Flash as Flash

-- the first of numbered requests are numbered so
numbered_front : (sender n : ℕ) (xs ys : List Request) (k : ℕ) (wishes : List Wish) → xs ++ ys ≡ numbered sender n (take k wishes) → xs ≡ numbered sender n (take (length xs) wishes)
numbered_front sender n [] ys k wishes is = refl
numbered_front sender n (x ∷ xs) ys zero wishes is = absurd cc
numbered_front sender n (x ∷ xs) ys (suc k) [] is = absurd cc
numbered_front sender n (x ∷ xs) ys (suc k) (wish ∷ wishes) is =
    let first : x ≡ request sender n wish = cc in
    let rest : xs ++ ys ≡ numbered sender (n + 1) (take k wishes) = cc in
    ap₂ (λ (r : Request) (rs : List Request). r ∷ rs) first (numbered_front sender (n + 1) xs ys k wishes rest)

-- the first of one element, or of none
front_of_one : (xs ys : List Request) (r : Request) → (xs ++ ys ≡ []) ⊎ (xs ++ ys ≡ r ∷ []) → (xs ≡ []) ⊎ (xs ≡ r ∷ [])
front_of_one [] ys r is = inl refl
front_of_one (x ∷ xs) ys r (inl none) = absurd cc
front_of_one (x ∷ xs) ys r (inr one) =
    let first : x ≡ r = cc in
    let rest : xs ++ ys ≡ [] = cc in
    inr (ap₂ (λ (q : Request) (rs : List Request). q ∷ rs) first (append-eq-nil_iff.0 rest).0)

-- the first of counted requests are counted
counted_front : (xs ys zs : List Request) → xs ++ ys ≡ zs → IsNumbered zs → IsNumbered xs
counted_front xs ys zs is counted =
    let seq : Request → ℕ = λ r. r.seq in
    let both : map seq xs ++ map seq ys ≡ range_with_len 1 (length zs) = sym (map-append seq xs ys) ∙ (ap (map seq) is ∙ counted) in
    counted_first 1 (length zs) (map seq xs) (map seq ys) both ∙ ap (range_with_len 1) (length-map xs seq)

-- what is so of each element, at its slot
each_there : {X : Type 0} (P : ℕ → X → Type 0) (n : ℕ) (xs : List X) → EachFrom P n xs → (k : ℕ) (d : X) → k < length xs → (slot : ℕ) → slot ≡ n + k → P slot (get_or xs k d)
each_there P n [] each k d below slot here = absurd (omega arith)
each_there P n (x ∷ xs) each zero d below slot here = let same : n ≡ slot = omega arith in subst (λ (m : ℕ). P m x) same each.0
each_there P n (x ∷ xs) each (suc k) d below slot here = each_there P (n + 1) xs each.1 k d (omega arith) slot (omega arith)

-- who is no writer of so many, nor the cleaner or the control, is no sender
no_sender : (writers sender : ℕ) → ((slot : ℕ) → slot < writers → sender ≢ slot + 1) → sender ≢ 9 → sender ≢ 10 → Contains (senders writers) sender → ⊥
no_sender writers sender other not_nine not_ten there =
    let Other : ℕ → Type 0 = λ n. n ≢ sender in
    let front : All Other (range_with_len 1 writers) = λ k d below is.
    let within : k < writers = omega (arith, length-range_with_len 1 writers) in
    let at : get_or (range_with_len 1 writers) k d ≡ 1 + k = get_or-range_with_len 1 writers k d within in
    other k within (sym is ∙ (at ∙ omega arith)) in
    let last : All Other (9 ∷ 10 ∷ []) = All-cons Other 9 (10 ∷ []) (λ is. not_nine (sym is)) (All-cons Other 10 [] (λ is. not_ten (sym is)) (All-nil Other)) in
    All-append Other (range_with_len 1 writers) (9 ∷ 10 ∷ []) front last there.0 sender there.1 there.2

pub nothing_asked : (script : List Writer) (rounds : Option ℕ) → AskedBy script rounds []
nothing_asked script rounds = record {
  writers = λ slot below. refl;
  cleaner = (tt, λ _. refl);
  counted = refl;
  control = inl refl;
  others = λ sender other not_nine not_ten. refl;
  stops = (None, refl);
}

module _ {H : Type 0} (g : Hand.Ghosts H) where
  -- what was taken of each hand is a beginning of what it handed in
  asked_by :
      {rounds : Option ℕ} (script : List Writer) (crew : Crew H) (hands : Hands H) (replies : List Reply) (taken : ℕ → List Request) (now : Option Unmounted)
      → map g.sender (crew_hands g crew) ≡ senders (length script) → HasHandedIn g script rounds crew hands
      → ((w : ℕ) → taken w ≡ of w (requests_in replies)) → WasSettled g.sender g.accepted (all_hands hands) taken
      → StopsAt None replies now → AskedBy script rounds replies
  asked_by script crew hands replies taken now given handed taken_is settled stops =
      let asked : List Request = requests_in replies in
      let left : List Request = settled.0 in
      let writers : List H = hands.writers.items in
      let tail : List H = hands.cleaner ∷ hands.control.hand ∷ [] in
      let numbers : map g.sender (writers ++ tail) ≡ senders (length script) = same_senders g (all_hands hands) (crew_hands g crew) handed.ends ∙ given in
      let count : length writers ≡ length script = count_writers g writers hands.cleaner hands.control.hand (length script) numbers in
      let split = split_senders g.sender 1 (length script) writers tail (9 ∷ 10 ∷ []) count numbers in
      let nine : g.sender hands.cleaner ≡ 9 = let e = split.1 in cc in
      let ten : g.sender hands.control.hand ≡ 10 = let e = split.1 in cc in
      let Is : H → Type 0 = λ hand. taken (g.sender hand) ++ of (g.sender hand) left ≡ g.accepted hand in
      let each : All Is (writers ++ tail) = settled.1.each in
      let last : All Is tail = All-right Is writers tail each in
      let begins : (hand : H) (w : ℕ) → g.sender hand ≡ w → Is hand → of w asked ++ of w left ≡ g.accepted hand =
      λ hand w same is. ap (λ (l : List Request). l ++ of w left) (sym (taken_is w)) ∙ subst (λ (k : ℕ). taken k ++ of k left ≡ g.accepted hand) same is in
      let of_cleaner : of 9 asked ++ of 9 left ≡ g.accepted hands.cleaner = begins hands.cleaner 9 nine (All-head Is hands.cleaner (hands.control.hand ∷ []) last) in
      let of_control : of 10 asked ++ of 10 left ≡ g.accepted hands.control.hand =
      begins hands.control.hand 10 ten (All-head Is hands.control.hand [] (All-tail Is hands.cleaner (hands.control.hand ∷ []) last)) in
      let Counted : H → Type 0 = λ hand. IsNumbered (g.accepted hand) in
      record {
        writers = λ slot below.
            let hand : H = get_or writers slot hands.cleaner in
            let within : slot < length writers = omega (arith, count) in
            let wishes : List Wish = wishes_of (commands_at script slot) in
            let many : ℕ = length (g.accepted hand) in
            let own : g.sender hand ≡ slot + 1 = each_there (λ slot hand. g.sender hand ≡ slot + 1) 0 writers split.0 slot hands.cleaner within slot (omega arith) in
            let first : HandedIn g script slot hand = each_there (HandedIn g script) 0 writers handed.first slot hands.cleaner within slot (omega arith) in
            let is : of (slot + 1) asked ++ of (slot + 1) left ≡ g.accepted hand = begins hand (slot + 1) own (All-left Is writers tail each slot hands.cleaner within) in
            numbered_front (slot + 1) 1 (of (slot + 1) asked) (of (slot + 1) left) many wishes (is ∙ (first ∙ ap (λ (w : ℕ). numbered w 1 (take many wishes)) own));
        cleaner = (
          (each_front (λ (r : Request). IsCopy r.wish) (of 9 asked) (of 9 left) (subst AreCopies (sym of_cleaner) handed.cleaner.0)).0,
          λ none. (append-eq-nil_iff.0 (of_cleaner ∙ handed.cleaner.1 none)).0,
        );
        counted = counted_front (of 9 asked) (of 9 left) (g.accepted hands.cleaner) of_cleaner
            (All-head Counted hands.cleaner (hands.control.hand ∷ []) (All-right Counted writers tail settled.1.numbered));
        control = front_of_one (of 10 asked) (of 10 left) (request 10 1 Unmount)
            (elim handed.control [
              | inl none ↦ inl (of_control ∙ none)
              | inr one ↦ inr (of_control ∙ (one ∙ ap (λ (w : ℕ). request w 1 Unmount ∷ []) ten))
            ]);
        others = λ sender other not_nine not_ten.
            let none = settled.1.others sender (λ there. no_sender (length script) sender other not_nine not_ten (subst (λ (l : List ℕ). Contains l sender) numbers there)) in
            (append-eq-nil_iff.0 (ap (λ (l : List Request). l ++ of sender left) (sym (taken_is sender)) ∙ none)).0;
        stops = (now, stops);
      }

  -- a core that had answered nothing was served, and all ends were taken back
  pub left_by_run :
      {rounds : Option ℕ} (script : List Writer) (crew : Crew H) (hands : Hands H) (first core : CoreState) (unsent : Option PendingStep) (put : List Step)
      (start : Start) (taken : ℕ → List Request) (replies : List Reply) (now : Option Unmounted) (why : RunWhy) (rest : Rest)
      → start.core ≡ first → start.core.answers ≡ [] → map g.sender (crew_hands g crew) ≡ senders (length script) → HasHandedIn g script rounds crew hands
      → ((w : ℕ) → start.taken w ≡ []) → HasReplied start core unsent put taken replies
      → WasSettled g.sender g.accepted (all_hands hands) taken → StopsAt None replies now
      → IsLater why → IsLeftWith core rest → LeftByRun script rounds first why rest
  left_by_run {rounds} script crew hands first core unsent put start taken replies now why rest same unanswered given handed untaken has settled stops later left =
      let taken_is : (w : ℕ) → taken w ≡ of w (requests_in replies) = λ w. has.all_taken w ∙ ap (λ (l : List Request). l ++ of w (requests_in replies)) (untaken w) in
      subst (λ (c : CoreState). LeftByRun script rounds c why rest) same record {
        named = later.mounted;
        turns = record { replies = replies; core = core; left = left.left; sizes = has.sizes; erases = has.erases; lawful = has.lawful };
        worn = left.worn;
        answers_are = left.given ∙ (has.answered ∙ ap (λ (l : List Answer). l ++ map answer_in replies) unanswered);
        asked = asked_by script crew hands replies taken now given handed taken_is settled stops;
        unserved = λ early. absurd (later.opened early);
      }

-- a core that answered nothing
pub left_at_once : (script : List Writer) (rounds : Option ℕ) (core : CoreState) (why : RunWhy) (rest : Rest) → why ≢ Mount → core.answers ≡ [] → IsLeftWith core rest
    → LeftByRun script rounds core why rest
left_at_once script rounds core why rest not_mount unanswered left = record {
  named = not_mount;
  turns = record {
    replies = [];
    core = core;
    left = left.left;
    sizes = (refl, refl);
    erases = since_start core;
    lawful = λ mounted past stands. runs_from core mounted past;
  };
  worn = left.worn;
  answers_are = left.given ∙ unanswered;
  asked = nothing_asked script rounds;
  unserved = λ _. refl;
}

-- a run that was given up before its first turn
pub given_up_at_once : {F : Type 0} (g : Flash.Ghosts F) (script : List Writer) (rounds : Option ℕ) (core : CoreState) (why : RunWhy) (fault : RunFault F)
    → why ≢ Mount → core.answers ≡ [] → GivesBack g (λ named rest. (named ≡ why) × IsLeftWith core rest) fault → GivesBack g (LeftByRun script rounds core) fault
given_up_at_once g script rounds core why fault not_mount unanswered given =
    gives_back_so g _ (LeftByRun script rounds core) fault
    (λ named rest left. subst (λ (w : RunWhy). LeftByRun script rounds core w rest) (sym left.0) (left_at_once script rounds core why rest not_mount unanswered left.1)) given
