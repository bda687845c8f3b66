use Rattle.std.proofs.Common.{◌≡◌, length, map, filter, sum, ◌+◌, ◌∷◌, ◌++◌, arith, ap, subst, sym, ◌∙◌, Bool, if◌then◌else◌, ℕ}
use Rattle.std.proofs.lemmas.List.Sums.{sum_by-cons}
use Rattle.jffs_tree.specs.Look.{holds_version}
use Rattle.jffs_log.specs.declared.log_index.RecordRef.{RecordRef}
use Rattle.jffs_log.proofs.weighing.weight_of.Goals as goal

pub overflow_add-weight : goal.overflow_add-weight
overflow_add-weight c =
    let short = c.length_of-weight.ensures.short in
    let few = c.requires in
    let left = c.records.invariant.small in
    let n = ap length c.in-Some.ensures.steps in
    omega arith

pub records-preserved-then-is_live : goal.records-preserved-then-is_live
records-preserved-then-is_live c =
    let live : RecordRef → Bool = λ k. holds_version c.args.tree.now k.inode k.version in
    let all : ℕ = sum (map (λ k. k.length) (filter live c.args.records.now.items)) in
    let here = c.in-Some.record.now in
    let rest = c.next.new.self.head.now ++ c.next.new.self.wrapped.now in
    let was : c.records.weight + sum (map (λ k. k.length) (filter live (here ∷ rest))) ≡ all = subst (λ l. c.records.weight + sum (map (λ k. k.length) (filter live l)) ≡ all) c.in-Some.ensures.steps c.records.invariant.weighed in
    let kept = filter live rest in
    let now : c.records.weight + sum (map (λ k. k.length) (here ∷ kept)) ≡ all = subst (λ b. c.records.weight + sum (map (λ k. k.length) (if b then here ∷ kept else kept)) ≡ all) (sym c.live_near-is_live.ensures.held ∙ c.if-is_live.true) was in
    let first : sum (map (λ k. k.length) (here ∷ kept)) ≡ here.length + sum (map (λ k. k.length) kept) = sum_by-cons (λ n. n) here.length (map (λ k. k.length) kept) in
    record {
      can_next = tt;
      is_finite = tt;
      weighed = let l = c.length_of-weight.ensures.length in omega arith;
      small =
          let short = c.length_of-weight.ensures.short in
          let left = c.records.invariant.small in
          let n = ap length c.in-Some.ensures.steps in
          omega arith;
    }
