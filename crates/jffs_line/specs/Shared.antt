-- What contracts see of the shared line's ends.
use Rattle.std.specs.Prelude.{◌≡◌, ℕ, List, [], ◌++◌, length, map}
use Rattle.std.specs.List.{All, range_with_len}
use Rattle.crossbeam_channel.specs.Claims.{view}
use Rattle.crossbeam_channel.specs.Ends.{sends_on, receives_on, ruled_capacity}
use Rattle.crossbeam_channel.specs.declared.flavors.array.Rows.{Rows}
use Rattle.crossbeam_channel.specs.declared.flavors.array.Key.{Key}
use Rattle.atomic_table.specs.declared.badge.Badge.{Badge}
use Rattle.jffs_line.specs.declared.request.Request.{Request}
use Rattle.jffs_line.specs.declared.shared.SharedHand.{SharedHand}
use Rattle.jffs_line.specs.declared.shared.SharedTaker.{SharedTaker}
use Rattle.jffs_line.specs.Requests.{of}
use Rattle.jffs_line.specs.InOrder.{Learned, accepted_of, sent_by}
use Rattle.jffs_line.specs.declared.knows.Sent.{Sent}
use Rattle.jffs_line.specs.Line.{Line, Shared, End, senders}

-- a channel's name is that of its table, besides the one of its table of messages
abbrev pub channel_line : {D Q M K L A : Type 0} → Rows (Badge (Key Request)) D Q M K L A → Line
channel_line c = Shared c.stamps.shared.table_id c.stamps.shared.key

abbrev pub shared_line : SharedHand → Line
shared_line h = channel_line (sends_on h.sends)

abbrev pub shared_end : SharedHand → End
shared_end h = (h.number, shared_line h)

abbrev pub shared_accepted : SharedHand → List Request
shared_accepted h = accepted_of (view h.pass)

abbrev pub shared_capacity : SharedHand → ℕ
shared_capacity h = ruled_capacity (sends_on h.sends)

-- What was accepted of sender w fits a line that held as many requests as it may: some of it was
-- taken, and the rest waited there.
abbrev pub WasFull : ℕ → ℕ → List Request → Type 0
WasFull capacity w accepted =
    (taken : List Request) × (waiting : List Request) × (length waiting ≡ capacity)
    × (accepted ≡ of w (taken ++ waiting))

abbrev pub shared_ends : SharedTaker → List End
shared_ends t = map (λ w. (w, channel_line (receives_on t.receives))) (senders t.writers)

-- what a hand's sender handed in, besides the sender
abbrev pub hand_sent : SharedHand → Sent
hand_sent h = sent_by h.number (shared_accepted h)

abbrev pub shared_taken : SharedTaker → ℕ → List Request
shared_taken t w = of w (view t.pass).taken

-- These hands at a line of this capacity are those of the first `count` writers, in order, and have
-- handed in nothing.
pub record AreFirstWriters (line : Line) (capacity count : ℕ) (hands : List SharedHand) :
    Type 0 where
  pub ends : map shared_end hands ≡ map (λ w. (w, line)) (range_with_len 1 count)
  pub fresh : All (λ h. (shared_accepted h ≡ []) × (shared_capacity h ≡ capacity)) hands

-- what the taker knows fits a line that holds nothing
abbrev pub WasEmpty : SharedTaker → Type 0
WasEmpty t = Learned (view t.pass) []
