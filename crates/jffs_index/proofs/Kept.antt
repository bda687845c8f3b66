-- Each step of an index keeps its rule.
use Rattle.std.proofs.Common.{◌≡◌, ℕ, ◌+◌, ◌≤◌, ◌≢◌, Bool, true, false, List, [], ◌∷◌, ◌++◌, length, drop, set, fold, refl, sym, ap, subst, ◌∙◌, ⊎_elim, append_assoc, append-nil, length-append, Option, Some, None, Result, Ok, Err, MatchResult, MatchBool, zero, suc, arith}
use Rattle.std.proofs.lemmas.List.{nil_from_length}
use Rattle.std.proofs.lemmas.List.Sums.{fold-append}
use Rattle.std.proofs.lemmas.Bool.{and_parts}
use Rattle.std.proofs.lemmas.Bool.Decides.{nat_tests}
use Rattle.std.proofs.lemmas.Result.{MatchResult-at_err, MatchResult-at_ok}
use lib.Dec.{leb}
use mathlib.Core.Option.{some, some-injective, some-ne-none}
use mathlib.Core.List.{IsPrefix}
use lib.ListN.{get_elem?}
use Rattle.crossbeam_utils.specs.Register.{Admits, TurnsAt, Forks, Merges}
use Rattle.atomic_table.proofs.Lists.{at_set, at_snoc}
use Rattle.logbook.specs.Pages.{Book, Named}
use Rattle.jffs_index.specs.declared.step.Step.{Step}
use Rattle.jffs_index.specs.declared.rule.History.{History}
use Rattle.jffs_index.specs.declared.rule.Index.{Index}
use Rattle.jffs_index.specs.declared.page.Page.{Page}
use Rattle.jffs_index.specs.declared.page.Change.{Change}
use Rattle.jffs_index.specs.declared.page.Change.TheVariants.{Put, Reach}
use Rattle.jffs_inodes.specs.Inodes.{Tree}
use Rattle.jffs_index.specs.Shown.{Shown, opened, after_step, after_tested, fits, all_fit}
use Rattle.jffs_index.specs.Histories.{view_of, extended, BeginsWith}
use Rattle.jffs_index.specs.Pages.{page_index, history_of, IsFaithful, after_change, steps_of, Knows, Keeps, Sees}
use Rattle.jffs_index.specs.Sights.{Sighted, sighted, opened_tree}
use Rattle.jffs_index.specs.Writing.{IsInStep, held}
use Rattle.jffs_index.specs.Books.{head_of}
use Rattle.jffs_index.proofs.Fronts.{prefix_shorter, prefix_rest, whole_of}

-- where each node fits at its turn, the test changes nothing
pub fold-tested : (x : Shown) (steps : List Step) → all_fit x steps ≡ true → fold after_tested x steps ≡ fold after_step x steps
fold-tested x [] e = refl
fold-tested x (s ∷ steps) e =
    let both = and_parts (fits x s) (all_fit (after_step x s) steps) e in
    let one : after_tested x s ≡ after_step x s = rw both.0 refl in
    ap (λ (z : Shown). fold after_tested z steps) one ∙ fold-tested (after_step x s) steps both.1

all_fit-push : (x : Shown) (steps : List Step) (s : Step) → all_fit x steps ≡ true → fits (fold after_step x steps) s ≡ true → all_fit x (steps ++ s ∷ []) ≡ true
all_fit-push x [] s e f = rw f refl
all_fit-push x (t ∷ steps) s e f =
    let both = and_parts (fits x t) (all_fit (after_step x t) steps) e in
    let rest : all_fit (after_step x t) (steps ++ s ∷ []) ≡ true = all_fit-push (after_step x t) steps s both.1 f in
    rw (both.0, rest) refl

-- each step is one more answer
pub answered-fold : (x : Shown) (steps : List Step) → (fold after_step x steps).answered ≡ x.answered + length steps
answered-fold x [] = omega arith
answered-fold x (s ∷ steps) = omega (arith, answered-fold (after_step x s) steps)

pub view-extended : (h : History) (steps : List Step) → view_of (extended h steps) ≡ fold after_step (view_of h) steps
view-extended h steps = fold-append after_step (opened h.opening) h.steps steps

extended-nil : (h : History) → extended h [] ≡ h
extended-nil h = ap (λ (z : List Step). record { opening = h.opening; steps = z }) (append-nil h.steps)

-- a history with the same number of answers is not longer
pub same_length : (h k : History) → BeginsWith h k → (view_of h).answered ≡ (view_of k).answered → h ≡ k
same_length h k b e =
    let long : (fold after_step (view_of k) b.0).answered ≡ (view_of k).answered + length b.0 = answered-fold (view_of k) b.0 in
    let as_long : (view_of h).answered ≡ (fold after_step (view_of k) b.0).answered = ap (λ (z : Shown). z.answered) (ap view_of b.1 ∙ view-extended k b.0) in
    let none : b.0 ≡ [] = nil_from_length b.0 (omega (arith, long, as_long, e)) in
    b.1 ∙ (ap (extended k) none ∙ extended-nil k)

pub begins_self : (h : History) → BeginsWith h h
begins_self h = ([], sym (extended-nil h))

pub begins_trans : (h k l : History) → BeginsWith h k → BeginsWith k l → BeginsWith h l
begins_trans h k l b c =
    (c.0 ++ b.0, b.1 ∙ (ap (λ (z : History). extended z b.0) c.1 ∙ ap (λ (z : List Step). record { opening = l.opening; steps = z }) (append_assoc l.steps c.0 b.0)))

-- a page has as many answers as its history has steps
pub counts : (p : Page) → IsFaithful p → p.view.answered ≡ length p.seen.log
counts p is =
    let many : p.view.answered ≡ (view_of (history_of p)).answered = ap (λ (z : Shown). z.answered) is in
    omega (arith, many, answered-fold (opened (opened_tree p.opening.log)) p.seen.log)

covers_at : (o : Tree) (xs ys zs : List Step) → IsPrefix xs zs → IsPrefix ys zs → length ys ≤ length xs → BeginsWith (record { opening = o; steps = xs }) (record { opening = o; steps = ys })
covers_at o xs ys zs p q le =
    let pre = prefix_shorter ys xs zs q p le in (pre.0, ap (λ (z : List Step). record { opening = o; steps = z }) (sym pre.1))

-- of two beginnings of one history, the longer begins with the shorter
pub covers : (s t : Sighted) (b c : Book) (xs ys zs : List Step) (o u : Tree) (n m : ℕ) (r : Bool) → sighted b xs o ≡ s → sighted c ys u ≡ t → s.index ≡ t.index
    → IsPrefix xs zs → IsPrefix ys zs → n ≡ length xs → m ≡ length ys → leb m n ≡ r → MatchBool r (BeginsWith s.history t.history) (BeginsWith t.history s.history)
covers s t b c xs ys zs o u n m r es et index p q en em is =
    let one : o ≡ u = ap (λ (z : Sighted). z.index.opening) es ∙ (ap (λ (i : Index). i.opening) index ∙ sym (ap (λ (z : Sighted). z.index.opening) et)) in
    let hs : record { opening = u; steps = xs } ≡ s.history = ap (λ (z : Tree). record { opening = z; steps = xs }) (sym one) ∙ ap (λ (z : Sighted). z.history) es in
    let ht : record { opening = u; steps = ys } ≡ t.history = ap (λ (z : Sighted). z.history) et in
    pick r is hs ht
  where
    pick : (r : Bool) → leb m n ≡ r → record { opening = u; steps = xs } ≡ s.history → record { opening = u; steps = ys } ≡ t.history → MatchBool r (BeginsWith s.history t.history) (BeginsWith t.history s.history)
    pick true is hs ht =
        subst (λ (z : History). BeginsWith z t.history) hs (subst (λ (z : History). BeginsWith (record { opening = u; steps = xs }) z) ht (covers_at u xs ys zs p q (grind (arith, nat_tests))))
    pick false is hs ht =
        subst (λ (z : History). BeginsWith z s.history) ht (subst (λ (z : History). BeginsWith (record { opening = u; steps = ys }) z) hs (covers_at u ys xs zs q p (grind (arith, nat_tests))))

-- the views after one seat knows something else, which is this index or nothing
seats_set : (i : Index) (views : List (Option Index)) (seat : ℕ) (known : Option Index)
    → ((j : ℕ) (k : Option Index) → get_elem? views j ≡ some k → Knows i k) → Knows i known
    → (j : ℕ) (k : Option Index) → get_elem? (set views seat known) j ≡ some k → Knows i k
seats_set i views seat known all new j k e =
    ⊎_elim (λ (t : (j ≡ seat) × (known ≡ k)). subst (Knows i) t.1 new) (λ (t : (j ≢ seat) × (get_elem? views j ≡ some k)). all j k t.1) (at_set views seat j known k e)

seats_snoc : (i : Index) (views : List (Option Index)) (known : Option Index)
    → ((j : ℕ) (k : Option Index) → get_elem? views j ≡ some k → Knows i k) → Knows i known
    → (j : ℕ) (k : Option Index) → get_elem? (views ++ known ∷ []) j ≡ some k → Knows i k
seats_snoc i views known all new j k e =
    ⊎_elim (λ (t : get_elem? views j ≡ some k). all j k t) (λ (t : known ≡ k). subst (Knows i) t new) (at_snoc views known k j e)

nothing_known : (i : Index) (seat : ℕ) (known : Option Index) → get_elem? (None ∷ []) seat ≡ some known → Knows i known
nothing_known i zero known e = subst (Knows i) (some-injective None known e) tt
nothing_known i (suc seat) known e = absurd (some-ne-none known (sym e))

pub begins : (x : Page) → IsFaithful x → Keeps x (None ∷ [])
begins x is = (is, nothing_known _)

pub admits : Admits Keeps None
admits x views (is, all) = (is, seats_snoc _ views None all tt)

-- the page that is published becomes one of the same index
pub turns : (seat : ℕ) (known : Option Index) (x y : Page) → page_index y ≡ page_index x → (IsFaithful x → IsFaithful y) → TurnsAt Keeps seat known x y Sees
turns seat known x y same faithful views (is, all) at =
    let all' : (j : ℕ) (k : Option Index) → get_elem? views j ≡ some k → Knows (page_index y) k = λ j k e. subst (λ (i : Index). Knows i k) (sym same) (all j k e) in
    (Some (page_index y), (faithful is, seats_set (page_index y) views seat (Some (page_index y)) all' refl), (refl, all' seat known at, faithful is))

pub sees : (seat : ℕ) (known : Option Index) (x : Page) → TurnsAt Keeps seat known x x Sees
sees seat known x = turns seat known x x refl (λ is. is)

pub forks : (seat : ℕ) (known : Option Index) → Forks Keeps seat known known known
forks seat known x views (is, all) at =
    let mine = all seat known at in (is, seats_snoc _ (set views seat known) known (seats_set _ views seat known all mine) mine)

-- a seat takes in what it is told
pub merges : (seat : ℕ) (known : Option Index) (other : ℕ) (told : Option Index) → Merges Keeps seat known other told told None
merges seat known other told x views (is, all) at apart there =
    let theirs : Knows (page_index x) told =
    ⊎_elim (λ (t : (other ≡ seat) × (told ≡ told)). absurd (apart t.0)) (λ (t : (other ≢ seat) × (get_elem? views other ≡ some told)). all other told t.1) (at_set views seat other told told there) in
    (is, seats_set _ (set views seat told) other None (seats_set _ views seat told all theirs) tt)

pub steps_put : (changes : List Change) (s : Step) → steps_of (changes ++ Put s ∷ []) ≡ steps_of changes ++ s ∷ []
steps_put [] s = refl
steps_put (Put t ∷ changes) s = ap (λ (z : List Step). t ∷ z) (steps_put changes s)
steps_put (Reach t ∷ changes) s = steps_put changes s

-- q stands for any page that has seen so much
steps_reach : (changes : List Change) (q : Page) → steps_of (changes ++ Reach q.seen ∷ []) ≡ steps_of changes
steps_reach [] q = refl
steps_reach (Put t ∷ changes) q = ap (λ (z : List Step). t ∷ z) (steps_reach changes q)
steps_reach (Reach t ∷ changes) q = steps_reach changes q

fold-reach : (p q : Page) (changes : List Change) → fold after_change p (changes ++ Reach q.seen ∷ []) ≡ record p { view = fold after_tested p.view (steps_of changes); seen = q.seen }
fold-reach p q [] = refl
fold-reach p q (Put s ∷ changes) = fold-reach (after_change p (Put s)) q changes
fold-reach p q (Reach t ∷ changes) = fold-reach (after_change p (Reach t)) q changes

-- the page after all changes, the last of which brings the history that has their steps
reached : (p q next : Page) (changes all : List Change) → IsFaithful p → all_fit p.view (steps_of changes) ≡ true → q.seen.book ≡ p.seen.book → q.seen.log ≡ p.seen.log ++ steps_of changes
    → all ≡ changes ++ Reach q.seen ∷ [] → next ≡ fold after_change p all
    → (page_index next ≡ page_index p) × IsFaithful next × (history_of next ≡ extended (history_of p) (steps_of changes)) × (next.seen.log ≡ q.seen.log)
reached p q next changes all faithful fit book log is to =
    let steps = steps_of changes in
    let end : next ≡ record p { view = fold after_tested p.view steps; seen = q.seen } = to ∙ (ap (fold after_change p) is ∙ fold-reach p q changes) in
    let head : next.seen.book ≡ p.seen.book = ap (λ (z : Page). z.seen.book) end ∙ book in
    let tree : opened_tree next.opening.log ≡ opened_tree p.opening.log = ap (λ (z : Page). opened_tree z.opening.log) end in
    let long : next.seen.log ≡ p.seen.log ++ steps = ap (λ (z : Page). z.seen.log) end ∙ log in
    let history : history_of next ≡ extended (history_of p) steps = λ i. record { opening = tree i; steps = long i } in
    let seen : next.view ≡ view_of (extended (history_of p) steps) =
    ap (λ (z : Page). z.view) end ∙ (fold-tested p.view steps fit ∙ (ap (λ (z : Shown). fold after_step z steps) faithful ∙ sym (view-extended (history_of p) steps))) in
    ((λ i. record { head = head_of (head i); opening = tree i }), seen ∙ sym (ap view_of history), history, ap (λ (z : Page). z.seen.log) end)

-- what the book lacks of the steps put, after what it has, is all of them
pub lacks : (page : Page) (changes : List Change) (logged batch : List Step) → IsPrefix logged (page.seen.log ++ steps_of changes) → batch ≡ drop (length logged) (page.seen.log ++ steps_of changes)
    → logged ++ batch ≡ page.seen.log ++ steps_of changes
lacks page changes logged batch pre is = ap (λ (z : List Step). logged ++ z) is ∙ prefix_rest logged (page.seen.log ++ steps_of changes) pre

pub lacks_count : (page : Page) (changes : List Change) (logged batch : List Step) (count all : ℕ) → IsPrefix logged (page.seen.log ++ steps_of changes) → batch ≡ drop (length logged) (page.seen.log ++ steps_of changes)
    → count ≡ length logged → all ≡ length page.seen.log + length (steps_of changes) → all ≡ count + length batch
lacks_count page changes logged batch count all pre is c a =
    let whole : length (logged ++ batch) ≡ length (page.seen.log ++ steps_of changes) = ap (length {A = Step}) (lacks page changes logged batch pre is) in
    omega (arith, c, a, whole, length-append logged batch, length-append page.seen.log (steps_of changes))

pub prefix_self : (xs ys : List Step) → xs ≡ ys → IsPrefix xs ys
prefix_self xs ys e = ([], append-nil xs ∙ e)

-- one more step is pending
pub puts : (page : Page) (changes changes' : List Change) (s : Step) (book : Book) (logged : List Step) (known : Option Index) (head : Named) (count all more : ℕ) → IsInStep page changes book logged known head count all
    → changes' ≡ changes ++ Put s ∷ [] → more ≡ all + 1 → fits (view_of (extended (history_of page) (steps_of changes))) s ≡ true → IsInStep page changes' book logged known head count more
puts page changes changes' s book logged known head count all more sound is one next =
    let longer : steps_of changes' ≡ steps_of changes ++ s ∷ [] = ap steps_of is ∙ steps_put changes s in
    let here : view_of (extended (history_of page) (steps_of changes)) ≡ fold after_step page.view (steps_of changes) =
    view-extended (history_of page) (steps_of changes) ∙ ap (λ (z : Shown). fold after_step z (steps_of changes)) (sym sound.faithful) in
    let pre : IsPrefix logged (page.seen.log ++ steps_of changes') =
    (sound.begins.0 ++ s ∷ [], sym (append_assoc logged sound.begins.0 (s ∷ [])) ∙ (ap (λ (z : List Step). z ++ s ∷ []) sound.begins.1 ∙ (append_assoc page.seen.log (steps_of changes) (s ∷ []) ∙ ap (λ (z : List Step). page.seen.log ++ z) (sym longer)))) in
    record {
      faithful = sound.faithful;
      knows = sound.knows;
      word = sound.word;
      same_book = sound.same_book;
      begins = pre;
      counted = sound.counted;
      counted_all = omega (arith, one, sound.counted_all, ap (length {A = Step}) longer, length-append (steps_of changes) (s ∷ []));
      fit = ap (all_fit page.view) longer ∙ all_fit-push page.view (steps_of changes) s sound.fit (subst (λ (z : Shown). fits z s ≡ true) here next);
    }

pub shows_more : (page : Page) (changes changes' : List Change) (s : Step) → changes' ≡ changes ++ Put s ∷ []
    → view_of (extended (history_of page) (steps_of changes')) ≡ after_step (view_of (extended (history_of page) (steps_of changes))) s
shows_more page changes changes' s is =
    let h = history_of page in
    let longer : steps_of changes' ≡ steps_of changes ++ s ∷ [] = ap steps_of is ∙ steps_put changes s in
    ap (λ (z : List Step). view_of (extended h z)) longer ∙ (view-extended h (steps_of changes ++ s ∷ []) ∙ (fold-append after_step (view_of h) (steps_of changes) (s ∷ []) ∙ ap (λ (z : Shown). after_step z s) (sym (view-extended h (steps_of changes)))))

-- what is pending after other changes with the same steps
pub same_steps : (page : Page) (changes changes' : List Change) (book : Book) (logged : List Step) (known : Option Index) (head : Named) (count all : ℕ) → IsInStep page changes book logged known head count all
    → steps_of changes' ≡ steps_of changes → IsInStep page changes' book logged known head count all
same_steps page changes changes' book logged known head count all sound is =
    record {
      faithful = sound.faithful;
      knows = sound.knows;
      word = sound.word;
      same_book = sound.same_book;
      begins = subst (λ (z : List Step). IsPrefix logged (page.seen.log ++ z)) (sym is) sound.begins;
      counted = sound.counted;
      counted_all = omega (arith, sound.counted_all, ap (length {A = Step}) is);
      fit = ap (all_fit page.view) is ∙ sound.fit;
    }

-- the history of q has all that was put, and the last change brings it to the page
pub record IsLogged (page q : Page) (changes all : List Change) (known : Option Index) (head : Named) (count total : ℕ) : Type 0 where
  pub sound : IsInStep page changes q.seen.book q.seen.log known head count total
  pub whole : (held page changes q.seen.log).unlogged ≡ []
  pub last : all ≡ changes ++ Reach q.seen ∷ []

-- the change that brings it is no step
pub logged_steps : {page q : Page} {changes all : List Change} {known : Option Index} {head : Named} {count total : ℕ}
    → IsLogged page q changes all known head count total → steps_of all ≡ steps_of changes
logged_steps {q = q} {changes = changes} logged = ap steps_of logged.last ∙ steps_reach changes q

module _ (page q next : Page) (changes all : List Change) (known : Option Index) (head : Named) (count total : ℕ) (logged : IsLogged page q changes all known head count total) (to : next ≡ fold after_change page all) where
  log_is : q.seen.log ≡ page.seen.log ++ steps_of changes
  log_is = let sound = logged.sound in whole_of q.seen.log (page.seen.log ++ steps_of changes) sound.begins logged.whole

  all_reached : (page_index next ≡ page_index page) × IsFaithful next × (history_of next ≡ extended (history_of page) (steps_of changes)) × (next.seen.log ≡ q.seen.log)
  all_reached = let sound = logged.sound in reached page q next changes all sound.faithful sound.fit sound.same_book log_is logged.last to

  -- all is published
  publishes : (known' : Option Index) → Sees known page next known' → (none : List Change) → none ≡ [] → IsInStep next none q.seen.book q.seen.log known' head count total
  publishes known' sees none empty =
      let sound = logged.sound in
      let nothing : steps_of none ≡ [] = ap steps_of empty in
      let long : total ≡ length next.seen.log = omega (arith, sound.counted_all, ap (length {A = Step}) log_is, ap (length {A = Step}) all_reached.3, length-append page.seen.log (steps_of changes)) in
      record {
        faithful = all_reached.1;
        knows = sees.0;
        word = sound.word ∙ sym (ap (λ (i : Index). i.head) all_reached.0);
        same_book = sound.same_book ∙ sym (ap (λ (i : Index). i.head.book) all_reached.0);
        begins = prefix_self _ _ (sym all_reached.3 ∙ (sym (append-nil next.seen.log) ∙ ap (λ (z : List Step). next.seen.log ++ z) (sym nothing)));
        counted = sound.counted;
        counted_all = omega (arith, long, ap (length {A = Step}) nothing);
        fit = ap (all_fit next.view) nothing;
      }

  -- the change of page that publishes all
  pub publishing : (seat : ℕ) → TurnsAt Keeps seat known page next Sees
  publishing seat = turns seat known page next all_reached.0 (λ _. all_reached.1)

pub pages_alike : (p q : Page) → p.view ≡ q.view → p.seen ≡ q.seen → p.opening ≡ q.opening → p ≡ q
pages_alike p q v s o = λ i. record { view = v i; seen = s i; opening = o i }

-- a publish with nothing pending
pub opens : (seat : ℕ) (known : Option Index) (x : Page) (changes : List Change) → changes ≡ [] → (next : Page) → next ≡ fold after_change x changes → TurnsAt Keeps seat known x next Sees
opens seat known x changes none next is =
    let same : next ≡ x = is ∙ ap (fold after_change x) none in turns seat known x next (ap page_index same) (subst IsFaithful (sym same))

-- nothing is published, and the last change stays pending
pub unpublished : (page page' q : Page) (changes all : List Change) (book : Book) (logged : List Step) (known known' : Option Index) (head : Named) (count total : ℕ) → IsInStep page changes book logged known head count total
    → page' ≡ page → all ≡ changes ++ Reach q.seen ∷ [] → known' ≡ known → IsInStep page' all book logged known' head count total
unpublished page page' q changes all book logged known known' head count total sound same is knows =
    let stays : IsInStep page all book logged known head count total = same_steps page changes all book logged known head count total sound (ap steps_of is ∙ steps_reach changes q) in
    subst (λ (z : Option Index). IsInStep page' all book logged z head count total) (sym knows) (subst (λ (z : Page). IsInStep z all book logged known head count total) (sym same) stays)

pub at_fault : {E : Type 0} (r : Result (Unit {0}) E) (x : E) → r ≡ Err x → (page page' next : Page) (all all' : List Change) (known known' : Option Index)
    → MatchResult r (λ _. (page' ≡ next) × (all' ≡ [])) (λ _. (page' ≡ page) × (all' ≡ all)) → MatchResult r (λ _. Sees known page page' known') (λ _. known' ≡ known)
    → (page' ≡ page) × (all' ≡ all) × (known' ≡ known)
at_fault r x e page page' next all all' known known' values rule =
    let v = MatchResult-at_err (λ _. (page' ≡ next) × (all' ≡ [])) (λ _. (page' ≡ page) × (all' ≡ all)) x e values in
    (v.0, v.1, MatchResult-at_err (λ _. Sees known page page' known') (λ _. known' ≡ known) x e rule)

-- what is left of a publish, whether it was refused or not
pub published_or_not : {E : Type 0} (r : Result (Unit {0}) E) (page page' q next : Page) (changes all all' : List Change) (known known' : Option Index) (head : Named) (count total : ℕ)
    → IsLogged page q changes all known head count total → next ≡ fold after_change page all
    → MatchResult r (λ _. (page' ≡ next) × (all' ≡ [])) (λ _. (page' ≡ page) × (all' ≡ all)) → MatchResult r (λ _. Sees known page page' known') (λ _. known' ≡ known)
    → IsInStep page' all' q.seen.book q.seen.log known' head count total
published_or_not (Ok x) page page' q next changes all all' known known' head count total logged to values rule =
    publishes page q page' changes all known head count total logged (values.0 ∙ to) known' rule all' values.1
published_or_not (Err x) page page' q next changes all all' known known' head count total logged to values rule =
    unpublished page page' q changes all' q.seen.book q.seen.log known known' head count total logged.sound values.0 (values.1 ∙ logged.last) rule

-- a publish that isn't refused shows all that was put
pub published_all : {E : Type 0} (r : Result (Unit {0}) E) (x : Unit {0}) → r ≡ Ok x → (page page' q next : Page) (changes all all' : List Change) (known : Option Index) (head : Named) (count total : ℕ)
    → IsLogged page q changes all known head count total → next ≡ fold after_change page all
    → MatchResult r (λ _. (page' ≡ next) × (all' ≡ [])) (λ _. (page' ≡ page) × (all' ≡ all))
    → (history_of page' ≡ extended (history_of page) (steps_of changes)) × (steps_of all' ≡ [])
published_all r x e page page' q next changes all all' known head count total logged to values =
    let v = MatchResult-at_ok (λ _. (page' ≡ next) × (all' ≡ [])) (λ _. (page' ≡ page) × (all' ≡ all)) x e values in
    (ap history_of v.0 ∙ (all_reached page q next changes all known head count total logged to).2, ap steps_of v.1)
