-- Chains of turns are begun, go on, and split.
use Rattle.std.proofs.Common.{List, [], ◌∷◌, ◌++◌, refl, sym, subst}
use Rattle.jffs_node.specs.declared.node.Node.{Node}
use Rattle.jffs_core.specs.CoreState.{CoreState}
use Rattle.jffs_core.specs.Past.{Represents}
use Rattle.jffs_serve.specs.Replies.{Reply}
use Rattle.jffs_serve.specs.Chain.{KeepsHistory, IsReplied, Chain, RunsTo, after_reply}
use Rattle.jffs_serve.specs.ChainLaws.{ChainsSplit}
use Rattle.jffs_serve.proofs.Keeping.{same_but_capacity, keeps_along}

keeps_itself : (core : CoreState) → KeepsHistory core core
keeps_itself core = same_but_capacity core core refl

-- no turn yet
pub runs_from : (start : CoreState) (mounted past : List Node) → RunsTo start start mounted past []
runs_from start mounted past = record { after = past; chain = (keeps_itself start, refl) }

chain_same :
    (mounted past after : List Node) (start old new : CoreState) (replies : List Reply)
    → KeepsHistory old new → Chain mounted past start replies old after → Chain mounted past start replies new after
chain_same mounted past after start old new [] keeps chain = (keeps_along start old new chain.0 keeps, chain.1)
chain_same mounted past after start old new (r ∷ replies) keeps chain =
    (chain.0, chain_same mounted (after_reply chain.0.replied) after chain.0.now old new replies keeps chain.1)

-- what passes after the last turn
pub runs_same : (start old new : CoreState) (mounted past : List Node) (replies : List Reply) → KeepsHistory old new → RunsTo start old mounted past replies → RunsTo start new mounted past replies
runs_same start old new mounted past replies keeps run = record { after = run.after; chain = chain_same mounted past run.after start old new replies keeps run.chain }

chain_more :
    (mounted past after : List Node) (start old new : CoreState) (replies : List Reply) (r : Reply)
    → Chain mounted past start replies old after → (replied : IsReplied mounted after old r new)
    → Chain mounted past start (replies ++ r ∷ []) new (after_reply replied)
chain_more mounted past after start old new [] r chain =
    subst (λ (now : List Node). (replied : IsReplied mounted now old r new) → Chain mounted past start (r ∷ []) new (after_reply replied)) (sym chain.1)
    (λ replied. (record { was = old; now = new; between = chain.0; replied = replied }, (keeps_itself new, refl)))
chain_more mounted past after start old new (q ∷ replies) r chain =
    λ replied. (chain.0, chain_more mounted (after_reply chain.0.replied) after chain.0.now old new replies r chain.1 replied)

-- one turn more
pub runs_more :
    (start old new : CoreState) (mounted past : List Node) (replies : List Reply) (r : Reply)
    → (run : RunsTo start old mounted past replies) → IsReplied mounted run.after old r new → RunsTo start new mounted past (replies ++ r ∷ [])
runs_more start old new mounted past replies r run replied =
    record { after = after_reply replied; chain = chain_more mounted past run.after start old new replies r run.chain replied }

chain_before :
    (mounted past after : List Node) (start old new : CoreState) (replies : List Reply)
    → KeepsHistory start old → Chain mounted past old replies new after → Chain mounted past start replies new after
chain_before mounted past after start old new [] keeps chain = (keeps_along start old new keeps chain.0, chain.1)
chain_before mounted past after start old new (r ∷ replies) keeps chain = (
  record { was = chain.0.was; now = chain.0.now; between = keeps_along start old chain.0.was keeps chain.0.between; replied = chain.0.replied },
  chain.1,
)

chain_along :
    (mounted past middle after : List Node) (start old new : CoreState) (first second : List Reply)
    → Chain mounted past start first old middle → Chain mounted middle old second new after → Chain mounted past start (first ++ second) new after
chain_along mounted past middle after start old new [] second here there =
    chain_before mounted past after start old new second here.0 (subst (λ (nodes : List Node). Chain mounted nodes old second new after) here.1 there)
chain_along mounted past middle after start old new (r ∷ first) second here there =
    (here.0, chain_along mounted (after_reply here.0.replied) middle after here.0.now old new first second here.1 there)

-- one stretch of turns after another
pub runs_along :
    (start old new : CoreState) (mounted past : List Node) (first second : List Reply)
    → (run : RunsTo start old mounted past first) → RunsTo old new mounted run.after second → RunsTo start new mounted past (first ++ second)
runs_along start old new mounted past first second run more =
    record { after = more.after; chain = chain_along mounted past run.after more.after start old new first second run.chain more.chain }

-- the core represents the history that a chain led to
pub chain_stands :
    (mounted past after : List Node) (start core : CoreState) (replies : List Reply)
    → Represents mounted past start → Chain mounted past start replies core after → Represents mounted after core
chain_stands mounted past after start core [] stands chain =
    subst (λ (nodes : List Node). Represents mounted nodes core) (sym chain.1) (chain.0.stands mounted past stands)
chain_stands mounted past after start core (r ∷ replies) stands chain =
    chain_stands mounted (after_reply chain.0.replied) after chain.0.now core replies chain.0.replied.answer.answers.stands chain.1

pub chains_split : ChainsSplit
chains_split mounted past after start core [] later r chain = record {
  taken = past;
  was = chain.0.was;
  now = chain.0.now;
  so_far = (chain.0.between, refl);
  replied = chain.0.replied;
  rest = chain.1;
}
chains_split mounted past after start core (q ∷ before) later r chain =
    let within = chains_split mounted (after_reply chain.0.replied) after chain.0.now core before later r chain.1 in
    record {
      taken = within.taken;
      was = within.was;
      now = within.now;
      so_far = (chain.0, within.so_far);
      replied = within.replied;
      rest = within.rest;
    }
