-- Words on lists of requests.
use Rattle.std.specs.Prelude.{◌≡◌, ℕ, ◌==◌, List, length, map}
use Rattle.std.specs.List.{filter, range_with_len}
use Rattle.jffs_line.specs.declared.request.Request.{Request}
use Rattle.jffs_tree.specs.declared.wish.Wish.{Wish}

-- the requests of sender w, in order
abbrev pub of : ℕ → List Request → List Request
of w rs = filter (λ (r : Request). r.writer == w) rs

abbrev pub request : ℕ → ℕ → Wish → Request
request w n wish = record { writer = w; seq = n; wish = wish }

-- they are numbered 1, 2, 3, ..
abbrev pub IsNumbered : List Request → Type 0
IsNumbered rs = map (λ (r : Request). r.seq) rs ≡ range_with_len 1 (length rs)
