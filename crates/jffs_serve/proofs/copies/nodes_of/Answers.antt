use Rattle.std.proofs.Common.{rules, ◌≡◌, suc, ◌+◌, ◌-◌, ◌/◌, List, [], ◌∷◌, ◌++◌, length, sym, subst, arith}
use Rattle.jffs_node.specs.declared.node.Node.{Node}
use Rattle.jffs_node.specs.declared.read.Read.TheVariants.{Closed}
use Rattle.jffs_node.specs.Reading.{found}
use Rattle.jffs_serve.specs.Copies.{AreSome}
use Rattle.jffs_serve.specs.Copying.{nodes_in}
use Rattle.jffs_serve.proofs.Copying.{image_goes_on, image_ends}
use Rattle.jffs_serve.proofs.copies.nodes_of.Goals as goal

pub loop-done-preserved : goal.loop-done-preserved
loop-done-preserved c =
    let n = c.in-Ok-Closed.node in
    let len = c.in-Ok-Closed.len in
    let max = c.unwrap_or-record_max.result in
    let count = length c.args.image.now / 64 in
    let is : Closed n len ≡ found max c.loop-done.rest.now = search rules in
    let more : count - c.loop-done._done ≡ suc (count - (c.loop-done._done + 1)) = omega arith in
    let pushed : c.push.new.self.items ≡ c.loop-done.nodes.items ++ n ∷ [] = search rules in
    record {
      nodes = λ rest some. subst (λ (ns : List Node). AreSome (ns ++ rest) (nodes_in c.args.image.now)) (sym pushed)
          (image_goes_on _ _ _ max c.loop-done.rest.now c.after-rest.result.now n len c.loop-done.nodes.items is c.after-rest.ensures more c.loop-done.invariant.nodes rest some);
    }

pub returns-after-loop-done : goal.returns-after-loop-done
returns-after-loop-done c = image_ends _ _ (c.loop-done.invariant.nodes _ tt)

pub returns-in_default : goal.returns-in_default
returns-in_default c = image_ends _ _ (c.loop-done.invariant.nodes _ tt)

pub returns-in_default-2 : goal.returns-in_default-2
returns-in_default-2 c = image_ends _ _ (c.loop-done.invariant.nodes _ tt)

pub returns-then-is_err : goal.returns-then-is_err
returns-then-is_err c =
    let same : c.push.new.self.items ≡ c.loop-done.nodes.items = search rules in
    subst (λ (ns : List Node). AreSome ns (nodes_in c.args.image.now)) (sym same) (image_ends _ _ (c.loop-done.invariant.nodes _ tt))
