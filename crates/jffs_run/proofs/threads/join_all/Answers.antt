use Rattle.std.proofs.Common.{rules, inl, inr, ℕ, List, [], length, sym, ◌∙◌, ap, subst, ◌∷◌, IsTrue, arith}
use Rattle.jffs_text.specs.declared.script.Writer.{Writer}
use Rattle.jffs_text.specs.declared.script.ReaderStatement.{ReaderStatement}
use Rattle.jffs_core.specs.declared.answer.Answer.{Answer}
use Rattle.jffs_core.specs.CoreState.{CoreState}
use Rattle.jffs_index.specs.declared.rule.Index.{Index}
use Rattle.jffs_tree.specs.declared.wish.Wish.TheVariants.{Unmount}
use Rattle.jffs_line.specs.Requests.{request}
use Rattle.jffs_run.specs.Ends.{EachFrom, end_of}
use Rattle.jffs_run.specs.Started.{IsLooking}
use Rattle.jffs_run.proofs.ends.Crews.{same_end, same_ends}
use Rattle.jffs_run.proofs.threads.join_all.Goals as goal

pub join_readers-readers-requires-clause-started : goal.join_readers-readers-requires-clause-started
join_readers-readers-requires-clause-started g c =
    let running = c.requires.running in
    let statements : List ReaderStatement = c.args.running.script.now.readers.items in
    let handles = c.args.running.looking.handles.items in
    (statements, subst (λ (i : Index). EachFrom (IsLooking i statements) 0 handles) (sym c.join-log.ensures.1.index) running.looking)

pub returns : goal.returns
returns g c =
    let running = c.requires.running in
    let crew = c.args.running.crew.value in
    let statements : List ReaderStatement = c.args.running.script.now.readers.items in
    let served = c.join-log.ensures in
    let handles = c.args.running.looking.handles.items in
    let looking : EachFrom (IsLooking _ statements) 0 handles = subst (λ (i : Index). EachFrom (IsLooking i statements) 0 handles) (sym served.1.index) running.looking in
    let read = c.join_readers-readers.ensures in
    let wrote = c.join_writers-joined.ensures in
    let control = c.ask_unmount-control.ensures in
    let cleaner = c.join_cleaner.ensures c.args.running.script.now.cleaner crew.cleaner.hand running.cleaning in
    let script : List Writer = c.args.running.script.now.writers.items in
    record {
      finished = record {
        hands = record {
          ends = same_ends g.H.Hand c.join_writers-joined.result.hands.items crew.writers.items _ _ _ _
              (wrote.ends ∙ running.given)
              (same_end g.H.Hand _ _ cleaner.0 cleaner.1)
              (same_end g.H.Hand _ _ control.end.0 control.end.1 ∙ ap (λ hand. end_of g.H.Hand hand.hand) running.control);
          first = wrote.handed_in script running.writing;
          cleaner = cleaner.2;
          control = elim control.asked [
            | inl idle ↦ inl idle
            | inr did ↦ inr (did.1 ∙ ap (λ (w : ℕ). request w 1 Unmount ∷ []) (sym control.end.0))
          ];
        };
        whole = λ none. elim control.asked [ inl idle ↦ inl idle | inr did ↦ inr (wrote.whole script running.writing did.0 (c.fault.ensures.none none).1) ];
        readers = λ none history whole.
            let all_look : IsTrue c.args.running.looking.all = let made = (c.fault.ensures.none none).0 in search (rules, made) in
            let every = running.every all_look in
            record {
              every =
                  let ends = c.join_readers-readers.result.ok in
                  let statements = c.args.running.script.now.readers.ok in
                  let count = read.count in
                  omega (arith, ends, statements, count, every);
              each = read.seen statements history looking
                  (λ counted. whole (counted ∙ ap (length {A = Answer}) (c.answers.ensures ∙ ap (λ (s : CoreState). s.answers) c.core.ensures)));
            };
        named = c.fault.ensures.why;
        ends = served.0;
        served = served.1;
      };
    }
