-- What contracts see of the ends of rings.
use Rattle.std.specs.Prelude.{◌≡◌, ℕ, List, [], ◌∷◌, ◌≢◌, map, cond, eqb}
use Rattle.rtrb.specs.Ring.{sent, received, producer_capacity}
use Rattle.std.specs.List.{All}
use Rattle.jffs_line.specs.declared.request.Request.{Request}
use Rattle.jffs_line.specs.declared.rings.Note.{Note}
use Rattle.jffs_line.specs.declared.rings.Ring.{Ring}
use Rattle.jffs_line.specs.declared.rings.RingHand.{RingHand}
use Rattle.jffs_line.specs.declared.rings.RingTaker.{RingTaker}
use Rattle.jffs_line.specs.Line.{Line, End}
use Rattle.jffs_line.specs.Line as line
use Rattle.jffs_line.specs.Requests.{request}

-- the ring adds its sender's number
abbrev pub as_request : ℕ → Note → Request
as_request w n = request w n.seq n.wish

abbrev pub ring_line : RingHand → Line
ring_line h =
    line.Ring h.producer.end.words h.producer.end.slots h.producer.end.names h.producer.end.heap

abbrev pub ring_accepted : RingHand → List Request
ring_accepted h = map (as_request h.number) (sent h.producer)

abbrev pub ring_hand_end : RingHand → End
ring_hand_end h = (h.number, ring_line h)

abbrev pub ring_end : Ring → End
ring_end r = (
  r.number,
  line.Ring r.consumer.end.words r.consumer.end.slots r.consumer.end.names r.consumer.end.heap,
)

abbrev pub ring_taken : Ring → List Request
ring_taken r = map (as_request r.number) (received r.consumer)

-- what was taken of sender w
abbrev pub taken_in : ℕ → List Ring → List Request
taken_in w [] = []
taken_in w (r ∷ rs) = cond (eqb r.number w) (ring_taken r) (taken_in w rs)

abbrev pub rings_ends : RingTaker → List End
rings_ends t = map ring_end t.rings.items

abbrev pub rings_taken : RingTaker → ℕ → List Request
rings_taken t w = taken_in w t.rings.items

abbrev pub ring_capacity : RingHand → ℕ
ring_capacity h = producer_capacity h.producer

-- Each of these hands has its ring, in the same order, with room for `capacity` requests, of which
-- none was handed in or taken.
pub record AreFresh (capacity : ℕ) (hands : List RingHand) (rings : List Ring) : Type 0 where
  pub ends : map ring_hand_end hands ≡ map ring_end rings
  pub none_accepted : All (λ h. (ring_accepted h ≡ []) × (ring_capacity h ≡ capacity)) hands
  pub none_taken : All (λ r. ring_taken r ≡ []) rings

-- no number stands twice
abbrev pub Apart : List ℕ → Type 0
Apart [] = Unit {0}
Apart (n ∷ ns) = All (λ (m : ℕ). m ≢ n) ns × Apart ns
