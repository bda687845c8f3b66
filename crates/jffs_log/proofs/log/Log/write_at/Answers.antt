use Rattle.std.proofs.Common.{◌≡◌, ◌+◌, ◌-◌, List, [], ◌∷◌, ◌++◌, ℕ, refl, sym, ap, subst, ◌∙◌, arith}
use Rattle.jffs_node.specs.Record.{record_len}
use Rattle.jffs_node.specs.declared.node.Node.{Node}
use Rattle.jffs_flash.specs.Device.{Device}
use Rattle.jffs_tree.specs.declared.wish.Cause.{Cause}
use Rattle.jffs_log.specs.declared.place.Place.{Place}
use Rattle.jffs_log.specs.Cleaning.{layout_of}
use Rattle.jffs_log.specs.Image.{is_clean}
use Rattle.jffs_log.specs.Live.{live_log}
use Rattle.jffs_log.specs.Volume.{sectors_in}
use Rattle.jffs_log.specs.LogIndex.{Describes, IsLogIndex, IsCut, log_in, placed_at}
use Rattle.jffs_log.specs.History.{KeepsRules}
use Rattle.jffs_log.specs.LogState.{LogState, KeepsNumbers, HasHistory, MayAppendAt, AppendedAt, AppendFailed, log_records}
use Rattle.jffs_log.proofs.Histories.{index_appends, index_cuts}
use Rattle.jffs_log.proofs.Seen.{told, only_image, same_sizes, log_holds}
use Rattle.jffs_log.proofs.append.Appended.{sizes_small}
use Rattle.jffs_log.proofs.append.Putting.{PutsAt, puts, index_after}
use Rattle.jffs_log.proofs.log.Log.write_at.Goals as goal
use Rattle.jffs_log.proofs.log.Log.write_at.Goals.{After-record_len-len, After-push_back_reserved}

-- What is said of the log inside is said of it by its other name. Its history has the record too.
done_seen : (inside seen new : LogState) (n : Node) (p : Place) → inside ≡ seen → KeepsNumbers inside.index new.index → IsLogIndex new.device.image new.index
    → log_records new ≡ log_records inside ++ placed_at p.sector p.offset n ∷ []
    → (KeepsNumbers inside.index new.index → ((past : List Node) → HasHistory past inside → KeepsRules (n ∷ past) → HasHistory (n ∷ past) new) → AppendedAt p n inside new) → AppendedAt p n seen new
done_seen inside seen new n p same numbers index added done = subst (λ (v : LogState). AppendedAt p n v new) same
    (done numbers (λ past known rules. index_appends inside.index new.index inside.device.image new.device.image past (placed_at p.sector p.offset n) numbers.sizes known rules index added))

failed_seen : (inside seen new : LogState) (n : Node) (why : Cause) → inside ≡ seen → AppendFailed n why inside new → AppendFailed n why seen new
failed_seen inside seen new n why same h = subst (λ (v : LogState). AppendFailed n why v new) same h

-- the record may be written where the log puts it
made : (g : _) (c : After-record_len-len g) → PutsAt c.self.inside.index (g.F.Flash.device c.self.inside.flash).image c.args.node.now c.args.place
made g c =
    puts _ c.args.node.now c.args.place (told _ _ c.self.view_is c.self.invariant c.requires.working)
    (subst (λ (v : LogState). MayAppendAt c.args.place c.args.node.now v) (sym c.self.view_is) c.requires.may)

-- the index has it
indexed : (g : _) (c : After-push_back_reserved g) → PutsAt c.self.inside.index (g.F.Flash.device c.self.inside.flash).image c.args.node.now c.args.place
    → Describes c.self.inside.index.sectors c.self.inside.index.sector_size (g.F.Flash.device c.write_record.new.flash).image c.self.inside.index.first c.args.place.held c.args.place.sector
    (c.args.place.offset + c.record_len-len.result) (c.args.place.free - c.record_len-len.result) c.push_back_reserved.new.self.items
indexed g c made =
    index_after c.self.inside.index _ _ c.args.node.now c.args.place made (ap (λ (d : Device). d.image) c.in-Ok.ensures.written) _ _ _ c.record_len-len.ensures c.len.ensures.value c.push_back_reserved.ensures.items

pub overflow_cast-place-in-Ok : goal.overflow_cast-place-in-Ok
overflow_cast-place-in-Ok g c =
    let inside = (made g (goal.at.overflow_cast-place-in-Ok g c).After-record_len-len).inside in
    let small = (sizes_small c.self.inside.index.sectors c.self.inside.index.sector_size (told _ _ c.self.view_is c.self.invariant c.requires.working).sizes).1 in
    omega arith

pub overflow_mul-at : goal.overflow_mul-at
overflow_mul-at g c = let may = (made g (goal.at.overflow_mul-at g c).After-record_len-len).may in omega (arith, may.free.inside, may.small)

pub overflow_add-at : goal.overflow_add-at
overflow_add-at g c = let may = (made g (goal.at.overflow_add-at g c).After-record_len-len).may in omega (arith, may.free.inside, may.small)

pub write_record-requires : goal.write_record-requires
write_record-requires g c = (made g (goal.at.write_record-requires g c).After-record_len-len).may

pub overflow_add-index : goal.overflow_add-index
overflow_add-index g c =
    let may = (made g (goal.at.overflow_add-index g c).After-record_len-len).may in
    let is = c.record_len-len.ensures in
    omega (arith, may.free.inside, may.small)

pub overflow_sub-index : goal.overflow_sub-index
overflow_sub-index g c =
    let fits = (made g (goal.at.overflow_sub-index g c).After-record_len-len).fits in
    let is = c.record_len-len.ensures in
    omega arith

pub invariant_of-self : goal.invariant_of-self
invariant_of-self g c =
    let here = goal.at.invariant_of-self g c in
    log_holds _ (same_sizes (g.F.Flash.device c.self.inside.flash) _ c.self.inside.index _ c.in-Ok.ensures.written c.self.invariant.sizes)
    (indexed g here.After-push_back_reserved (made g here.After-record_len-len)) c.self.invariant.intact

pub returns-in-Ok-clause-done : goal.returns-in-Ok-clause-done
returns-in-Ok-clause-done g c =
    let here = goal.at.returns-in-Ok-clause-done g c in
    let made = made g here.After-record_len-len in
    let index = indexed g here.After-push_back_reserved made in
    let n = c.args.node.now in
    let b = c.self.inside.index in
    let p = c.args.place in
    let old = g.F.Flash.device c.self.inside.flash in
    let new = g.F.Flash.device c.write_record.new.flash in
    let written = c.in-Ok.ensures.written in
    let image = ap (λ (d : Device). d.image) written in
    let at : p.offset ≡ p.offset + c.record_len-len.result - record_len n = let is = c.record_len-len.ensures in omega arith in
    let added = ap (live_log b.sectors b.sector_size) image ∙ made.whole.1 in
    done_seen _ _ _ n p c.self.view_is (record { sizes = (refl, refl); first = refl; erases = refl }) index added (λ numbers history r is. record {
      works = record {
        failed = ap (λ (v : LogState). v.failed) c.self.view_is ∙ c.requires.working;
        no_erase_failed = refl;
        told = index;
        device = only_image old new _ written;
      };
      numbers = numbers;
      added = added ∙ ap (λ (k : ℕ). log_in old.image b ++ placed_at p.sector k n ∷ []) at;
      layout_is = ap (λ (xs : List ℕ). layout_of b.sector_size (sectors_in b.sectors b.sector_size xs)) image ∙ made.layout r is;
      clean = ap (λ (xs : List ℕ). is_clean (sectors_in b.sectors b.sector_size xs)) image ∙ made.whole.3;
      worn = c.in-Ok.ensures.worn;
      history = history;
    })

pub returns-in-Err-clause-failed : goal.returns-in-Err-clause-failed
returns-in-Err-clause-failed g c =
    let n = c.args.node.now in
    let b = c.self.inside.index in
    let p = c.args.place in
    let old = g.F.Flash.device c.self.inside.flash in
    let new = g.F.Flash.device c.write_record.new.flash in
    let fails = c.in-Err.ensures.written in
    let found = (made g (goal.at.returns-in-Err-clause-failed g c).After-record_len-len).cut new.image fails.left in
    let cut : IsCut b old.image new.image (placed_at p.sector p.offset n) = record { readable = found.0; log = found.1 } in
    failed_seen _ _ _ n _ c.self.view_is
    (record {
      cause_is = c.failure.ensures.cause;
      failed = c.failure.ensures.kept;
      device = record { left = record { sector = p.sector; offset = p.offset; cut = cut }; faults = fails.faults; rest = fails.rest };
      numbers = record { sizes = (refl, refl); first = refl; erases = refl };
      no_erase_failed = refl;
      intact = c.self.invariant.intact (ap (λ (v : LogState). v.failed) c.self.view_is ∙ c.requires.working);
      worn = c.in-Err.ensures.worn;
      history = λ past known rules. index_cuts b b old.image new.image past (placed_at p.sector p.offset n) (refl, refl) known rules cut;
    })
