-- A text has no more rows than bytes.
use Rattle.fit_cells.proofs.Common.{◌≡◌, ◌∙◌, ◌<◌, ◌≤◌, ◌+◌, ◌⊎◌, Bool, inl, inr, arith, length, ◌∷◌, [], ℕ, List, Some, true, false, refl, sym, ap, Read}
use Rattle.fit_cells.proofs.Common.{next_record, ends_at_end, is_end, step, after_end, in_field, start_field, start_record, ends_with, is_byte, fields_after}
use Rattle.fit_cells.proofs.Common.{field_after, cases_Bool, Reached, default_config, strip_bom, is_bom, Config, State, Row}
use Rattle.std.proofs.Common.{◌==◌, ◌&&◌, if◌then◌else◌}
use Rattle.std.proofs.lemmas.Option.{same_Some}
use Rattle.csv.specs.declared.parser.Action.{Action}
use Rattle.csv.specs.declared.parser.Terminator.{Terminator}
use Rattle.csv.specs.declared.parser.Action.TheVariants as act
use Rattle.csv.specs.declared.parser.Terminator.TheVariants as term
use Rattle.csv.specs.declared.parser.State.TheVariants as st

-- the states in which the end of the text ends no record
abbrev pub Between : State → Type 0
Between s = ends_at_end s ≡ false

between-end : (t : Terminator) (c : ℕ) → Between (after_end t c)
between-end term.CRLF c = elim (cases_Bool (c == 13)) [
  | inl cr ↦ rw cr refl
  | inr other ↦ rw other refl
]
between-end (term.Any b) c = refl

between-field : (cfg : Config) (c : ℕ) → is_end (in_field cfg c).1 ≡ true → Between (in_field cfg c).0
between-field cfg c h = elim (cases_Bool (c == cfg.delimiter)) [
  | inl comma ↦ cc (rw comma at h)
  | inr plain ↦ elim (cases_Bool (ends_with cfg.terminator c)) [
    | inl end ↦ rw (plain, end) (between-end cfg.terminator c)
    | inr copied ↦ cc (rw (plain, copied) at h)
  ]
]

between-start : (cfg : Config) (c : ℕ) → is_end (start_field cfg c).1 ≡ true → Between (start_field cfg c).0
between-start cfg c h = elim (cases_Bool (cfg.quoting && (c == cfg.quote))) [
  | inl quote ↦ cc (rw quote at h)
  | inr plain ↦ rw plain (between-field cfg c (rw plain at h))
]

between-cases : (a b : Bool) (x : State × Action) → (is_end x.1 ≡ true → Between x.0)
    → is_end (if a then (st.StartRecord, act.Skip) else if b then (st.InComment, act.Skip) else x).1 ≡ true
    → Between (if a then (st.StartRecord, act.Skip) else if b then (st.InComment, act.Skip) else x).0
between-cases true b x f h = refl
between-cases false true x f h = cc h
between-cases false false x f h = f h

between-record : (cfg : Config) (c : ℕ) → is_end (start_record cfg c).1 ≡ true → Between (start_record cfg c).0
between-record cfg c h = between-cases (ends_with cfg.terminator c) (is_byte cfg.comment c) (start_field cfg c) (between-start cfg c) h

between-after : (cfg : Config) (s : State) (c : ℕ) → is_end (step cfg s c).1 ≡ true → Between (step cfg s c).0
between-after cfg st.StartRecord c h = between-record cfg c h
between-after cfg st.StartField c h = between-start cfg c h
between-after cfg st.InField c h = between-field cfg c h
between-after cfg st.InQuoted c h = elim (cases_Bool (cfg.quoting && (c == cfg.quote))) [
  | inl quote ↦ cc (rw quote at h)
  | inr plain ↦ elim (cases_Bool (cfg.quoting && is_byte cfg.escape c)) [
    | inl escape ↦ cc (rw (plain, escape) at h)
    | inr copied ↦ cc (rw (plain, copied) at h)
  ]
]
between-after cfg st.InEscape c h = cc h
between-after cfg st.AfterQuote c h = elim (cases_Bool (cfg.quoting && cfg.double_quote && (c == cfg.quote))) [
  | inl quote ↦ cc (rw quote at h)
  | inr plain ↦ rw plain (between-field cfg c (rw plain at h))
]
between-after cfg st.InComment c h = elim (cases_Bool (c == 10)) [
  | inl end ↦ cc (rw end at h)
  | inr more ↦ cc (rw more at h)
]
between-after cfg st.AfterCr c h = between-cases (c == 10) false (start_record cfg c) (between-record cfg c) h

-- a record that is read takes a byte of the text where there is one, and leaves the reader between two records
Takes : List ℕ → Read → Type 0
Takes xs p = ((length p.2 < length xs) ⊎ ((length xs ≡ 0) × (length p.2 ≡ 0))) × Between p.1

further : (c : ℕ) (rest : List ℕ) (p : Read) → Takes rest p → Takes (c ∷ rest) p
unfolding Takes
further c rest p (inl less, between) = (inl (omega (arith, less)), between)
further c rest p (inr (none, empty), between) = (inl (omega (arith, none, empty)), between)

read-takes : (cfg : Config) (s : State) (fields : List (List ℕ)) (field : List ℕ) (xs : List ℕ) (p : Read) → next_record cfg s fields field xs ≡ Some p
    → Takes xs p
unfolding next_record Takes
read-takes cfg s fields field [] p e = elim (cases_Bool (ends_at_end s)) [
  | inl ends ↦
      let is = same_Some _ p (rw ends at e) in
      (inr (refl, ap (λ (q : Read). length q.2) (sym is)), ap (λ (q : Read). ends_at_end q.1) (sym is))
  | inr between ↦ cc (rw between at e)
]
read-takes cfg s fields field (c ∷ rest) p e = elim (cases_Bool (is_end (step cfg s c).1)) [
  | inl end ↦
      let is = same_Some _ p (rw end at e) in
      let left : length p.2 ≡ length rest = ap (λ (q : Read). length q.2) (sym is) in
      (inl (omega (arith, left)), ap (λ (q : Read). ends_at_end q.1) (sym is) ∙ between-after cfg s c end)
  | inr goes ↦ further c rest p (read-takes cfg (step cfg s c).0 (fields_after (step cfg s c).1 fields field) (field_after (step cfg s c).1 c field) rest p
      (rw goes at e))
]

-- no text, no record
nothing-read : (cfg : Config) (s : State) (xs : List ℕ) (p : Read) → length xs ≡ 0 → Between s → next_record cfg s [] [] xs ≡ Some p → ⊥
unfolding next_record
nothing-read cfg s [] p none b e = cc (rw b at e)
nothing-read cfg s (c ∷ rest) p none b e = absurd (omega (arith, none))

-- no more records than bytes
pub rows-within : (cfg : Config) (rows : List Row) (s s2 : State) (xs y : List ℕ) → Between s → Reached cfg s xs rows s2 y → length rows + length y ≤ length xs
unfolding Reached Takes
rows-within cfg [] s s2 xs y b (es, ex) = rw ex (omega arith)
rows-within cfg (r ∷ rows) s s2 xs y b (p, e, same, more) =
    let (takes, between) = read-takes cfg s [] [] xs p e in
    let rest = rows-within cfg rows p.1 s2 p.2 y between more in
    elim takes [
      | inl less ↦ omega (arith, less, rest)
      | inr (none, empty) ↦ absurd (nothing-read cfg s xs p none b e)
    ]

strip-length : (xs : List ℕ) → length (strip_bom xs) ≤ length xs
unfolding strip_bom
strip-length (a ∷ b ∷ c ∷ rest) = elim (cases_Bool (is_bom a b c)) [
  | inl mark ↦ rw mark (omega arith)
  | inr none ↦ rw none (omega arith)
]
strip-length xs = omega arith

-- a text has no more rows than bytes
pub rows-of-text : (text : List ℕ) (rows : List Row) (s : State) (y : List ℕ) → Reached default_config st.StartRecord (strip_bom text) rows s y
    → length rows ≤ length text
rows-of-text text rows s y reached = omega (arith, rows-within default_config rows st.StartRecord s (strip_bom text) y refl reached, strip-length text)
