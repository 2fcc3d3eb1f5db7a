-- What skipping leaves.
use Rattle.fit_report.proofs.Common.{◌≡◌, ℕ, ◌+◌, List, [], ◌++◌, length, take, drop, map, reverse, None, refl, sym, ap, ◌∙◌, subst, arith, append_assoc}
use Rattle.fit_report.proofs.Common.{append-nil, length-drop, reverse-append, reverse-reverse, Record, Seen, fed, Event, AreEvents, item, Lines, text_of, Skips}
use Rattle.fit_report.proofs.Common.{hear_records, take-add}

pub records_heard : {A : Type 0} (bytes : List ℕ) (records : List (Record A)) (heard : List (Event A)) → AreEvents bytes (reverse heard ++ map item records)
    → AreEvents bytes (reverse (hear_records records heard))
records_heard bytes records heard are =
    subst (AreEvents bytes) (sym (reverse-append (reverse (map item records)) heard ∙ ap (λ es. reverse heard ++ es) (reverse-reverse (map item records)))) are

pub fed_so : (old new : Seen) (piece : List ℕ) (used : ℕ) → new ≡ record old { bytes = old.bytes ++ take used piece } → old.refusal ≡ None
    → new ≡ fed old piece used
fed_so old new piece used is fresh = is ∙ (λ i. record { bytes = old.bytes ++ take used piece; refusal = fresh i })

pub skips_nothing : {A R : Type 0} {has_heard : R → List (Event A) → Type 0} {line : Lines A} {old : Seen} {piece : List ℕ} {reporter : R} {text : List ℕ}
    → Skips has_heard line old old piece reporter reporter text text 0
skips_nothing {line = line} {old = old} {text = text} = record {
  within = omega arith;
  is_fed = ap (λ (b : List ℕ). record old { bytes = b }) (sym (append-nil old.bytes));
  refused = λ reason is. (refl, refl, refl, refl);
  told = λ heard has are. (heard, has, are, [], sym (append-nil text), sym (append-nil (text_of line heard)));
}

pub fed_further : (old mid new : Seen) (piece rest : List ℕ) (at used : ℕ) → mid ≡ record old { bytes = old.bytes ++ take at piece } → rest ≡ drop at piece
    → new ≡ record mid { bytes = mid.bytes ++ take used rest } → new ≡ record old { bytes = old.bytes ++ take (at + used) piece }
fed_further old mid new piece rest at used before left more =
    more ∙ ap (λ (v : Seen). record v { bytes = v.bytes ++ take used rest }) before
    ∙ ap (λ (b : List ℕ). record old { bytes = b })
    (append_assoc old.bytes (take at piece) (take used rest)
    ∙ ap (λ (x : List ℕ). old.bytes ++ x) (ap (λ (x : List ℕ). take at piece ++ take used x) left ∙ sym (take-add at used piece)))

-- Skipped once, and once more in what is left of the piece.
pub skips_on : {A R : Type 0} {has_heard : R → List (Event A) → Type 0} {line : Lines A} {old mid new : Seen} {piece rest : List ℕ} {at used : ℕ}
    {before between after : R} {first second third : List ℕ} → Skips has_heard line old mid piece before between first second at → rest ≡ drop at piece
    → Skips has_heard line mid new rest between after second third used → Skips has_heard line old new piece before after first third (at + used)
skips_on {line = line} {old = old} {mid = mid} {new = new} {piece = piece} {rest = rest} {at = at} {used = used} {first = first} p left q = record {
  within = omega (arith, p.within, q.within, ap length left, length-drop at piece);
  is_fed = fed_further old mid new piece rest at used p.is_fed left q.is_fed;
  refused = λ reason is.
      let a = p.refused reason is in
      let b = q.refused reason (ap (λ (v : Seen). v.refusal) a.1 ∙ is) in
      (omega (arith, a.0, b.0), b.1 ∙ a.1, b.2 ∙ a.2, b.3 ∙ a.3);
  told = λ heard has are.
      let a = p.told heard has are in
      let b = q.told a.0 a.1 a.2 in (
        b.0,
        b.1,
        b.2,
        a.3 ++ b.3,
        b.4 ∙ ap (λ t. t ++ b.3) a.4 ∙ append_assoc first a.3 b.3,
        b.5 ∙ ap (λ t. t ++ b.3) a.5 ∙ append_assoc (text_of line heard) a.3 b.3,
      );
}

-- What was skipped was heard, and `put` is the text of it where no text stood before.
pub skips_heard : {A R : Type 0} {has_heard : R → List (Event A) → Type 0} {line : Lines A} {old new : Seen} {piece : List ℕ} {used : ℕ} {before after : R}
    {first text : List ℕ} → Skips has_heard line old new piece before after first text used → first ≡ [] → (put : List ℕ) → put ≡ text
    → (heard : List (Event A)) → has_heard before heard → AreEvents old.bytes (reverse heard)
    → (now : List (Event A)) × has_heard after now × AreEvents new.bytes (reverse now) × (text_of line now ≡ text_of line heard ++ put)
skips_heard {line = line} p none put is heard has are =
    let t = p.told heard has are in
    (t.0, t.1, t.2, t.5 ∙ ap (λ x. text_of line heard ++ x) (sym (is ∙ t.4 ∙ ap (λ x. x ++ t.3) none)))
