-- A byte is refused for one reason, and bytes have one list of events.
use Rattle.fit_chain.proofs.Common.{◌≡◌, ℕ, List, ◌++◌, length, sym, ◌∙◌, Some, flat_map, Reason, Event, AreEvents, file_events, progress_events, IsRefused}
use Rattle.fit_chain.proofs.Common.{reason_at}
use Rattle.fit_chain.proofs.OnePlace.{one_place}

pub one_reason : {A : Type 0} (limit : ℕ) (bytes : List ℕ) (b : ℕ) (r s : Reason) → IsRefused A limit bytes b r → IsRefused A limit bytes b s → r ≡ s
one_reason limit bytes b r s p q =
    let place = one_place p.files q.files p.progress q.progress bytes p.come q.come in
    let same : reason_at limit (length p.files) p.progress b ≡ reason_at limit (length q.files) q.progress b =
    λ i. reason_at limit (length (place.0 i)) (place.1 i) b in
    let both : Some r ≡ Some s = sym p.because ∙ same ∙ q.because in
    cc

pub one_list_of_events : {A : Type 0} (bytes : List ℕ) (us vs : List (Event A)) → AreEvents bytes us → AreEvents bytes vs → us ≡ vs
one_list_of_events bytes us vs (fs, g, p, u) (gs, k, q, v) =
    let place = one_place fs gs g k bytes p q in
    u ∙ (λ i. flat_map file_events (place.0 i) ++ progress_events (place.1 i)) ∙ sym v
