-- A run whose threads were not started.
use Rattle.std.proofs.Common.{◌≡◌, ℕ, ◌+◌, List, [], ◌∷◌, length, take, map, inl, sym, ◌∙◌, ap, subst, Option, Some, IfSome}
use Rattle.std.specs.List.{All}
use Rattle.std.proofs.lemmas.List.Elements.{All-head, All-tail}
use Rattle.std.proofs.lemmas.Option.{none-some}
use Rattle.jffs_line.specs.declared.request.Request.{Request}
use Rattle.jffs_line.specs.declared.hand.Hand as Hand
use Rattle.jffs_line.specs.declared.hand.Hands.{Hands}
use Rattle.jffs_line.specs.declared.hand.Control.{Control}
use Rattle.jffs_line.specs.declared.hand.Taker as Taker
use Rattle.jffs_index.specs.declared.rule.Index.{Index}
use Rattle.jffs_serve.specs.Serving.{HasServed}
use Rattle.jffs_text.specs.declared.script.Script.{Script}
use Rattle.jffs_text.specs.declared.script.Writer.{Writer}
use Rattle.jffs_text.specs.Wishes.{wishes_of}
use Rattle.jffs_run.specs.declared.crew.Crew.{Crew}
use Rattle.jffs_run.specs.declared.crew.Finished.{Finished}
use Rattle.jffs_run.specs.declared.fault.RunWhy.{RunWhy}
use Rattle.jffs_run.specs.declared.promise.LogSide.{LogSide}
use Rattle.jffs_run.specs.declared.promise.LogEnd.{LogEnd}
use Rattle.jffs_run.specs.Ends.{EachFrom, HandedIn, AreCopies, commands_at, end_of}
use Rattle.jffs_run.specs.Crew.{HasFinished, HasHandedIn, IsFit}
use Rattle.jffs_run.specs.Numbered.{numbered}
use Rattle.jffs_run.specs.Why.{IsOfThreads}
use Rattle.jffs_run.proofs.ends.Crews.{same_ends}

module _ {H : Type 0} (g : Hand.Ghosts H) where
  -- hands that handed nothing in
  none_handed_in : (script : List Writer) (n : ℕ) (hands : List H) → All (λ hand. g.accepted hand ≡ []) hands → EachFrom (HandedIn g script) n hands
  none_handed_in script n [] all = tt
  none_handed_in script n (hand ∷ hands) all =
      let P : H → Type 0 = λ h. g.accepted h ≡ [] in
      let none = All-head P hand hands all in
      let wishes = wishes_of (commands_at script n) in (
        none ∙ ap (λ (l : List Request). numbered (g.sender hand) 1 (take (length l) wishes)) (sym none),
        none_handed_in script (n + 1) hands (All-tail P hand hands all),
      )

  handed_nothing_in :
      (script : List Writer) (rounds : Option ℕ) (crew : Crew H) (hands : Hands H)
      → hands.writers.items ≡ crew.writers.items → hands.cleaner ≡ crew.cleaner.hand → hands.control ≡ crew.control
      → All (λ hand. g.accepted hand ≡ []) crew.writers.items → g.accepted crew.cleaner.hand ≡ [] → g.accepted crew.control.hand ≡ []
      → HasHandedIn g script rounds crew hands
  handed_nothing_in script rounds crew hands writers cleaner control fresh unused idle = record {
    ends = same_ends g hands.writers.items crew.writers.items _ _ _ _ (ap (map (end_of g)) writers) (ap (end_of g) cleaner) (ap (λ (c : Control H). end_of g c.hand) control);
    first = subst (EachFrom (HandedIn g script) 0) (sym writers) (none_handed_in script 0 crew.writers.items fresh);
    cleaner = let none = ap g.accepted cleaner ∙ unused in (subst AreCopies (sym none) tt, λ without. none);
    control = inl (ap (λ (c : Control H). g.accepted c.hand) control ∙ idle);
  }

module _ {H T : Type 0} (hand : Hand.Ghosts H) (taker : Taker.Ghosts T) where
  pub finished_unstarted :
      {F W : Type 0} (script : Script) (crew : Crew H) (side : LogSide F T W) (finished : Finished H F T W) (log : LogEnd F T W) (index : Index) (why : RunWhy)
      → IsFit hand script crew index
      → finished.hands.writers ≡ crew.writers → finished.hands.cleaner ≡ crew.cleaner.hand → finished.hands.control ≡ crew.control
      → finished.fault ≡ Some why → IsOfThreads why → finished.log ≡ log → taker.ends log.side.taker ≡ taker.ends side.taker
      → HasServed side.session side.publisher (taker.taken side.taker) log.side.session log.side.publisher (taker.taken log.side.taker) log.served
      → HasFinished hand taker script crew side finished
  finished_unstarted {F} {W} script crew side finished log index why fit writers cleaner control fault named same ends served = record {
    hands = handed_nothing_in hand script.writers.items script.cleaner crew finished.hands (ap (λ ws. ws.items) writers) cleaner control fit.writers.fresh fit.unused fit.idle;
    whole = λ none. absurd (none-some why (sym none ∙ fault));
    readers = λ none. absurd (none-some why (sym none ∙ fault));
    named = subst (λ (o : Option RunWhy). IfSome o IsOfThreads) (sym fault) named;
    ends = ap (λ (l : LogEnd F T W). taker.ends l.side.taker) same ∙ ends;
    served = subst (λ (l : LogEnd F T W). HasServed side.session side.publisher (taker.taken side.taker) l.side.session l.side.publisher (taker.taken l.side.taker) l.served) (sym same) served;
  }
