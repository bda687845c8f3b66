-- What a request wants, with the bytes after its line.
use Rattle.std.specs.Prelude.{ℕ, List, take, drop}
use Rattle.jffs_text.specs.Spelling.{spelled}
use Rattle.jffs_tree.specs.declared.wish.Wish.TheVariants as wish
use Rattle.jffs_protocol.specs.Asks.{first_len}
use Rattle.jffs_protocol.specs.declared.asking.Ask.{Ask}
use Rattle.jffs_protocol.specs.declared.asking.Ask.TheVariants as ask
use Rattle.jffs_manage.specs.declared.wanting.Query.TheVariants as query
use Rattle.jffs_manage.specs.declared.wanting.Wanted.{Wanted}
use Rattle.jffs_manage.specs.declared.wanting.Wanted.TheVariants as wanted

-- with the path that the first bytes spell, and the bytes after them
abbrev pub wanted_by : Ask → List (List ℕ) → List ℕ → Wanted
wanted_by (ask.Stat n) path rest = wanted.Query (query.Stat path)
wanted_by (ask.List n) path rest = wanted.Query (query.List path)
wanted_by (ask.Read n offset len) path rest = wanted.Query (query.Read path offset len)
wanted_by ask.Room path rest = wanted.Query query.Room
wanted_by ask.Limits path rest = wanted.Query query.Limits
wanted_by ask.Check path rest = wanted.Query query.Check
wanted_by (ask.Create n) path rest = wanted.Change (wish.Create path)
wanted_by (ask.MakeDir n) path rest = wanted.Change (wish.MakeDir path)
wanted_by (ask.Write n offset len) path rest = wanted.Change (wish.Write path offset rest)
wanted_by (ask.Truncate n size) path rest = wanted.Change (wish.Truncate path size)
wanted_by (ask.Remove n) path rest = wanted.Change (wish.Remove path)
wanted_by (ask.Rename n m) path rest = wanted.Change (wish.Rename path (spelled rest))
wanted_by ask.Sync path rest = wanted.Sync
wanted_by ask.Unmount path rest = wanted.Unmount

-- what a request wants
abbrev pub wanted_of : Ask → List ℕ → Wanted
wanted_of a body = wanted_by a (spelled (take (first_len a) body)) (drop (first_len a) body)
