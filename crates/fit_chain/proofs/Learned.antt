-- What is known after the events of bytes.
use Rattle.fit_chain.proofs.Common.{◌≡◌, ℕ, List, [], ◌∷◌, ◌++◌, refl, ap, ◌∙◌, flat_map, map, Header, FitFile, Record, Environment, empty_environment, learn}
use Rattle.fit_chain.proofs.Common.{learn_all, at_data, HasCome, Event, header, file_events, progress_events, AreEvents}
use Rattle.std.proofs.lemmas.List.Sums.{fold-append}
use Rattle.std.specs.Prelude.{fold}
use Rattle.fit_chain.specs.Events.{item, known_next, known_after}
use Rattle.fit_chain.proofs.OnePlace.{one_place}

items_learned : {A : Type 0} (e : Environment A) (rs : List (Record A)) → fold known_next e (map item rs) ≡ learn_all e rs
items_learned e [] = refl
items_learned e (r ∷ rs) = items_learned (learn e r) rs

-- in a data section it is what its records make
pub known_in_data : {A : Type 0} (fs : List (FitFile A)) (h : Header) (n : ℕ) (records : List (Record A)) (part bytes : List ℕ)
    → HasCome fs (at_data h n records part) bytes → (events : List (Event A)) → AreEvents bytes events
    → known_after events ≡ learn_all empty_environment records
known_in_data fs h n records part bytes come events (gs, g, others, is) =
    let same = one_place gs fs g (at_data h n records part) bytes others come in
    ap known_after (is ∙ (λ i. flat_map file_events (same.0 i) ++ progress_events (same.1 i)))
    ∙ fold-append known_next empty_environment (flat_map file_events fs) (header h n ∷ map item records) ∙ items_learned empty_environment records
