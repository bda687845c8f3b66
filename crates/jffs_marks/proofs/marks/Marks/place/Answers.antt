use Rattle.std.proofs.Common.{◌≡◌, ◌<◌, ◌+◌, ℕ, Some, length, slice_get, ap, subst, sym, ◌∙◌, arith}
use Rattle.std.proofs.lemmas.Option.{slice_get-get_or}
use Rattle.jffs_marks.specs.Marks.{MarkKey, Counts, mark_key, IsKeyAt, BelongsAt, IsPlaceWithin}
use Rattle.jffs_marks.proofs.Marking.{mark_tied}
use Rattle.jffs_marks.proofs.Places.{one_key, key_at, read_at}
use Rattle.jffs_marks.proofs.Searched.{in_front}
use Rattle.jffs_marks.proofs.Halving.{anywhere, upper_half, lower_half}
use Rattle.jffs_marks.proofs.marks.Marks.place.Goals as goal
use Rattle.jffs_marks.proofs.marks.Marks.place.Goals.{After-index}

pub returns-then-newest-version-clause-absent : goal.returns-then-newest-version-clause-absent
returns-then-newest-version-clause-absent c =
    let items = c.self.inside.counts.items in
    let front = c.in-Some.field-0.now in
    let there = c.in-Some.ensures.item.3 in
    subst (λ (t : Counts). BelongsAt t (mark_key c.args.version c.args.inode) 0) c.self.view_is
    (in_front items c.self.invariant.ordered (mark_key c.args.version c.args.inode) front
    (slice_get-get_or items 0 front there.0 ∙ ap (λ (e : MarkKey × ℕ). Some e) (sym (there.1 front)))
    c.if-newest-version.true)

within : (c : After-index) → c.min-guess.result < length c.self.inside.counts.items
within c = omega (arith, c.in-Some.ensures.item.3.0, c.self.inside.counts.ok.0, c.len-len.ensures, c.min-guess.ensures)

-- the entry at the guess
guessed : (c : After-index) → slice_get c.self.inside.counts.items c.min-guess.result ≡ Some c.index.result.now
guessed c = read_at c.self.inside.counts.items c.min-guess.result c.index.result.now (within c) c.index.ensures

pub returns-then-eq-clause-there : goal.returns-then-eq-clause-there
returns-then-eq-clause-there c =
    let key = mark_key c.args.version c.args.inode in
    let found = c.index.result.now in
    subst (λ (t : Counts). IsKeyAt t key c.min-guess.result) c.self.view_is
    (key_at c.self.inside.counts.items c.min-guess.result found (guessed (goal.at.returns-then-eq-clause-there c).After-index)
    ∙ ap (λ (k : MarkKey). Some k) (sym (one_key key found.0 (mark_tied key found.0 ∙ sym c.if-eq.ensures))))

pub search-requires : goal.search-requires
search-requires c =
    let here = goal.at.search-requires c in
    let items = c.self.inside.counts.items in
    let key = mark_key c.args.version c.args.inode in
    subst (λ (t : Counts). IsPlaceWithin t key (c.min-guess.result + 1) c.len-len.result) c.self.view_is
    (subst (λ n. IsPlaceWithin items key (c.min-guess.result + 1) n) (sym c.self.inside.counts.ok.0 ∙ sym c.len-len.ensures)
    (upper_half items c.self.invariant.ordered key _ _ c.min-guess.result c.index.result.now (anywhere items c.self.invariant.ordered key) (within here.After-index) (guessed here.After-index)
    (sym c.is_before.ensures ∙ c.if-is_before.true)))

pub search-requires-else-is_before : goal.search-requires-else-is_before
search-requires-else-is_before c =
    let here = goal.at.search-requires-else-is_before c in
    let items = c.self.inside.counts.items in
    let key = mark_key c.args.version c.args.inode in
    subst (λ (t : Counts). IsPlaceWithin t key 0 c.min-guess.result) c.self.view_is
    (lower_half items c.self.invariant.ordered key _ _ c.min-guess.result c.index.result.now (anywhere items c.self.invariant.ordered key) (omega arith) (within here.After-index) (guessed here.After-index)
    (sym c.is_before.ensures ∙ c.if-is_before.false))
