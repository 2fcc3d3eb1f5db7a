-- What `Quiet` and `Least` say of any list of events, since bytes have one.
use Rattle.fit_chain.proofs.Common.{ℕ, ◌<◌, ◌≤◌, List, [], ◌∷◌, ◌++◌, take, subst, FitFile, Quiet, Least, Event, AreEvents, Progress, HasCome}
use Rattle.fit_chain.proofs.Next.{are_events, events_of}
use Rattle.fit_chain.proofs.OneReason.{one_list_of_events}

-- the events stay for each front of the piece of at most k bytes
abbrev pub Stay : {A : Type 0} → List ℕ → List ℕ → ℕ → List (Event A) → Type 0
Stay bytes piece k events = (j : ℕ) → j ≤ k → AreEvents (bytes ++ take j piece) events

-- the first k bytes of the piece add this event to the events, and no fewer do
abbrev pub Add : {A : Type 0} → List ℕ → List ℕ → ℕ → Event A → List (Event A) → Type 0
Add bytes piece k x events = AreEvents (bytes ++ take k piece) (events ++ x ∷ []) × ((j : ℕ) → j < k → AreEvents (bytes ++ take j piece) events)

module _ {A : Type 0} (bytes piece : List ℕ) (k : ℕ) where
  pub quiet_for : Quiet A bytes piece k → (events : List (Event A)) → AreEvents bytes events → Stay bytes piece k events
  quiet_for (own, are, stay) events told = subst (Stay bytes piece k) (one_list_of_events bytes own events are told) stay

  pub least_for : (x : Event A) → Least A bytes piece k x → (events : List (Event A)) → AreEvents bytes events → Add bytes piece k x events
  least_for x (own, are, more, before) events told = subst (Add bytes piece k x) (one_list_of_events bytes own events are told) (more, before)

  module _ (files : List (FitFile A)) (g : Progress A) (come : HasCome files g bytes) where
    pub quiet_of : ((events : List (Event A)) → AreEvents bytes events → Stay bytes piece k events) → Quiet A bytes piece k
    quiet_of all = (events_of files g, are_events files g bytes come, all (events_of files g) (are_events files g bytes come))

    pub least_of : (x : Event A) → ((events : List (Event A)) → AreEvents bytes events → Add bytes piece k x events) → Least A bytes piece k x
    least_of x all =
        let add = all (events_of files g) (are_events files g bytes come) in
        (events_of files g, are_events files g bytes come, add.0, add.1)
