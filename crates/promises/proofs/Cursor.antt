-- The contracts of next_event and fd_next_event. Of these two, which are lent a record, the prover makes no reading, so
-- the promises speak of Stepped and SaidStep. Here is why that is enough: the clauses of the two, as the prover has
-- them from the source, ask nothing and say just that, in any model of the logic.
-- Assumes nothing.
use mathlib.Core.Path.{◌≡◌, refl}
use seplogic.Ra.Ura.{Ura}
use base.Logic.{SProp}
use prog.Memory.{Memory}
use prog.Routine.{Routine}
use types.Logic.{Logic}
use contract.Monad.{Fun}
use contract.Notation.{connectives}
use contract.Lifetimes.{Lfts}
use denote.Triple.Entry.{Args, Res}
use denote.Triple.Clauses.{AtExit}
use Rattle.search_events.specs.Events.{Stepped, SaidStep}
use Rattle.search_events.specs.contracts.next_event as next_event
use Rattle.flumedrac.specs.contracts.fd_next_event as fd_next_event

module _ {M : Type 1} {𝓤 : Ura M} (𝓛 : Logic 𝓤) (mem : Memory → SProp 𝓤) (run : Routine → Fun 𝓤)
    (κs : Lfts 1) where
  open connectives 𝓤 use {⌜◌⌝, ⊤ₛ}

  module _ (a : Args next_event.signature κs) where
    pub next_event_asks : (next_event.clauses 𝓛 mem run κs a).requires tt ≡ ⊤ₛ
    next_event_asks = refl

    pub next_event_says : (r : Res next_event.signature κs) (x : AtExit next_event.ended κs)
        → (next_event.clauses 𝓛 mem run κs a).ensures tt r x
        ≡ ⌜ Stepped a.0.now.at a.1.0 a.1.1.0 x.0.now.at r ⌝
    next_event_says r x = refl

  module _ (a : Args fd_next_event.signature κs) where
    pub fd_next_event_asks : (fd_next_event.clauses 𝓛 mem run κs a).requires tt ≡ ⊤ₛ
    fd_next_event_asks = refl

    pub fd_next_event_says : (r : Res fd_next_event.signature κs) (x : AtExit fd_next_event.ended κs)
        → (fd_next_event.clauses 𝓛 mem run κs a).ensures tt r x
        ≡ ⌜ SaidStep a.0.now.at a.1.0 a.1.1.0 x.0.now.at r ⌝
    fd_next_event_says r x = refl
