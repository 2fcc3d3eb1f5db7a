-- Messages that are taken in ahead are skipped.
use Rattle.fit_report.proofs.Common.{◌≡◌, ◌∙◌, ◌++◌, ◌∷◌, [], ◌<◌, ◌≤◌, ◌+◌, ℕ, List, Some, length, reverse, refl, sym, ap, subst, take, drop, arith}
use Rattle.fit_report.proofs.Common.{append-nil, append_assoc, length-drop, inl, inr, map, map-append, reverse-append, reverse-reverse, Global, AreEvents}
use Rattle.fit_report.proofs.Common.{Event, item, Record, Seen, Lines, Skips, text_of, hear_records}
use Rattle.fit_report.proofs.Skipped.{records_heard}
use Rattle.fit_chain.specs.Events.{known_after}
use Rattle.fit_decode.specs.Answers.{LookedAhead, MessagesFollow, NextMessage}
use Rattle.fit_frame.specs.declared.reason.Reason.{Reason}
use Rattle.fit_record.specs.Records.{IsRecord}
use Rattle.fit_record.specs.declared.message.Record.TheVariants.{Values as Data}
use Rattle.fit_record.specs.declared.message.Values.{Values}
use Rattle.fit_report.specs.inner.Taking.{TakesAhead}

pub follow_within : {A : Type 0} (seen : Seen) (piece : List ℕ) (used : ℕ) (records : List (Record A)) → MessagesFollow A seen piece used records
    → used ≤ length piece
follow_within seen piece used records (inl none) = omega (arith, none.0)
follow_within seen piece used records (inr (fresh, fs, h, n, before, come, within, learns, left)) = within

follow_refused : {A : Type 0} (seen : Seen) (piece : List ℕ) (used : ℕ) (records : List (Record A)) (reason : Reason) → seen.refusal ≡ Some reason
    → MessagesFollow A seen piece used records → used ≡ 0
follow_refused seen piece used records reason is (inl none) = none.0
follow_refused seen piece used records reason is (inr (fresh, fs, h, n, before, come, within, learns, left)) = absurd cc

pub rest_at : (rest piece : List ℕ) (n m : ℕ) → rest ≡ drop n piece → n ≡ m → rest ≡ drop m piece
rest_at rest piece n m left is = left ∙ ap (λ k. drop k piece) is

-- what is looked at ahead goes on in the same piece
pub ahead_on : (a b : LookedAhead) (seen : Seen) (piece : List ℕ) (n : ℕ) → a ≡ record { fed = seen; piece = piece; used = a.used }
    → b ≡ record a { used = n } → b ≡ record { fed = seen; piece = piece; used = b.used }
ahead_on a b seen piece n is on =
    on ∙ ap (λ (x : LookedAhead). record x { used = n }) is
    ∙ ap (λ (m : ℕ). record { fed = seen; piece = piece; used = m }) (sym (ap (λ (x : LookedAhead). x.used) on))

pub next_here : (a : LookedAhead) (seen : Seen) (piece : List ℕ) (size : ℕ) → a ≡ record { fed = seen; piece = piece; used = a.used }
    → NextMessage Global a size → NextMessage Global (record { fed = seen; piece = piece; used = a.used }) size
next_here a seen piece size is = subst (λ x. NextMessage Global x size) is

-- one record more is heard
heard_more : {A : Type 0} (records : List (Record A)) (r : Record A) (heard : List (Event A))
    → hear_records (records ++ r ∷ []) heard ≡ item r ∷ hear_records records heard
heard_more records r heard =
    ap (λ es. reverse es ++ heard) (map-append item records (r ∷ [])) ∙ ap (λ es. es ++ heard) (reverse-append (map item records) (item r ∷ []))

in_order : {A : Type 0} (records : List (Record A)) (heard : List (Event A)) → reverse (hear_records records heard) ≡ reverse heard ++ map item records
in_order records heard =
    reverse-append (reverse (map item records)) heard ∙ ap (λ es. reverse heard ++ es) (reverse-reverse (map item records))

module _ {R : Type 0} (has : R → List (Event Global) → Type 0) (line : Lines Global) (seen : Seen) (piece : List ℕ) where
  pub takes_nothing : (r : R) (text : List ℕ) → TakesAhead has line seen piece r r text text 0
  takes_nothing r text = record {
    records = [];
    follow = inl (refl, refl);
    none = λ none. (refl, refl);
    told = λ heard here are. (here, [], sym (append-nil text), sym (append-nil (text_of line heard)));
  }

  module _ {before between : R} {first second : List ℕ} {used : ℕ} (p : TakesAhead has line seen piece before between first second used) where
    module _ (size : ℕ) (rest : List ℕ) (next : NextMessage Global (record { fed = seen; piece = piece; used = used }) size)
        (left : rest ≡ drop used piece) where
      spelled : (heard : List (Event Global)) → AreEvents seen.bytes (reverse heard)
          → IsRecord (known_after (reverse (hear_records p.records heard))) (Data next.0) (take size rest)
      spelled heard are =
          let is = (next.1 p.records p.follow).1 (reverse heard) are in
          subst (λ l. IsRecord (known_after (reverse (hear_records p.records heard))) (Data next.0) (take size l)) (sym left)
          (subst (λ es. IsRecord (known_after es) (Data next.0) (take size (drop used piece))) (sym (in_order p.records heard)) is)

      pub next_ends : used + size ≤ length piece
      next_ends = follow_within seen piece (used + size) (p.records ++ Data next.0 ∷ []) (next.1 p.records p.follow).0

      pub next_within : size ≤ length rest
      next_within = omega (arith, next_ends, ap length left, length-drop used piece)

      -- the next message may be taken in
      pub may_take : (heard : List (Event Global)) → has before heard → AreEvents seen.bytes (reverse heard)
          → (h : List (Event Global)) × (v : Values Global) × has between h × IsRecord (known_after (reverse h)) (Data v) (take size rest)
      may_take heard here are = (hear_records p.records heard, next.0, (p.told heard here are).0, spelled heard are)

      -- and so one more is taken in
      pub takes_more : (after : R) (third : List ℕ) → 0 < size
          → ((heard : List (Event Global)) (v : Values Global) → has between heard → IsRecord (known_after (reverse heard)) (Data v) (take size rest)
          → has after (item (Data v) ∷ heard))
          → ((heard : List (Event Global)) (v : Values Global) → has between heard → IsRecord (known_after (reverse heard)) (Data v) (take size rest)
          → third ≡ second ++ line heard (item (Data v)))
          → TakesAhead has line seen piece before after first third (used + size)
      takes_more after third some heard_so put_so = record {
        records = p.records ++ Data next.0 ∷ [];
        follow = (next.1 p.records p.follow).0;
        none = λ none. absurd (omega (arith, none, some));
        told = λ heard here are.
            let t = p.told heard here are in
            let x = item (Data next.0) in
            let hs = hear_records p.records heard in
            let more = heard_more p.records (Data next.0) heard in (
              subst (has after) (sym more) (heard_so hs next.0 t.0 (spelled heard are)),
              t.1 ++ line hs x,
              put_so hs next.0 t.0 (spelled heard are) ∙ ap (λ l. l ++ line hs x) t.2 ∙ append_assoc first t.1 (line hs x),
              ap (text_of line) more ∙ ap (λ l. l ++ line hs x) t.3 ∙ append_assoc (text_of line heard) t.1 (line hs x),
            );
      }

    -- Fed together, the messages are skipped.
    pub skips_taken : (new : Seen) → 0 < used → new ≡ record seen { bytes = seen.bytes ++ take used piece }
        → ((events : List (Event Global)) (records : List (Record Global)) → AreEvents seen.bytes events → MessagesFollow Global seen piece used records
        → AreEvents new.bytes (events ++ map item records))
        → Skips has line seen new piece before between first second used
    skips_taken new some fed events = record {
      within = follow_within seen piece used p.records p.follow;
      is_fed = fed;
      refused = λ reason is. absurd (omega (arith, some, follow_refused seen piece used p.records reason is p.follow));
      told = λ heard here are.
          let t = p.told heard here are in (
            hear_records p.records heard,
            t.0,
            records_heard new.bytes p.records heard (events (reverse heard) p.records are p.follow),
            t.1,
            t.2,
            t.3,
          );
    }

    -- Where there were none, what is skipped then is all that is skipped.
    pub skips_then : (new : Seen) (after : R) (third : List ℕ) (n : ℕ) → used ≡ 0 → Skips has line seen new piece between after second third n
        → Skips has line seen new piece before after first third n
    skips_then new after third n none s =
        let same = p.none none in
        subst (λ r. Skips has line seen new piece r after first third n) same.0
        (subst (λ l. Skips has line seen new piece between after l third n) same.1 s)
