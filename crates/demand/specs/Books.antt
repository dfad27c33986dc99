-- THE BOOKS. "A buffer is in the books from the good answer to its allocate to the answer to its free", "at every question they name exactly what was handed over and not given back."
-- Said of every list of a session's events from a fresh session, as in Demand.antt: for every card and every host that keep the rules, whatever they reply, refused calls and answers included, at
-- every stand that is reached. What was handed over and not given back is told by the host alone: by what it has handed out since the session began, and by the deals, which are written at the good
-- answer to an allocate and at the answer to a free (card/specs/Card.antt: `HostStep`). So a run is named while its map, its unmap or its free is asked, and no more from the answer to that free on.
-- The theorem is `books` of proofs/Books.antt. The definitions, beside those of Events.antt and of `Start`: card_calls/specs/Has.antt: `Has`; session's `named` with `in_slot`, `is_held`, `slot_at`, `buffer_of`.
use Rattle.std.specs.Prelude.{ℕ, List, [], ◌∷◌}
use Rattle.std.proofs.Math.Option.{Option}
use Rattle.session.specs.Session.{named}
use Rattle.card.specs.Card.{Hold}
use Rattle.card_calls.specs.Has.{pieces, Has}
use Rattle.demand.specs.Events.{Event, Stand, Step}
use Rattle.demand.specs.Demand.{Start}

-- the books name exactly what the session has of the host; `base` is what was handed out before it began
pub record Exactly (base : ℕ → Option Hold) (x : Stand) : Type 1 where
  pub named : Has base (pieces (named x.session.books)) x.world.host

-- at each stand, whatever the world does at each event
abbrev pub AlwaysExactly : (ℕ → Option Hold) → List Event → Stand → Type 1
AlwaysExactly base [] x = Exactly base x
AlwaysExactly base (e ∷ es) x = Exactly base x × ((y : Stand) → Step x e y → AlwaysExactly base es y)

-- THE STATEMENT
abbrev pub BooksExact : Type 1
BooksExact = (x : Stand) → Start x → (es : List Event) → AlwaysExactly x.world.host.hand es x
