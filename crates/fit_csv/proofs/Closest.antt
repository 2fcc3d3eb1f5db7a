-- The first cell in which a row differs from the closest row that can stand there.
use Rattle.fit_csv.proofs.Common.{◌≡◌, ◌∙◌, zero, suc, ◌≤◌, [], ◌∷◌, take, refl, sym, ap, ap₂, arith, inl, take-take, Row, Agree, IsBadCell, AsFar, DifferAt}
use Rattle.fit_csv.proofs.Common.{IsCellFault, IsMisfit, Misfit}
use Rattle.std.proofs.Common.{ℕ}
use Rattle.fit_csv.specs.declared.from.misfit.Misfit.TheVariants.{Kind, Cell, NoMemory}

pub as_far : (count : ℕ) (xs ys ts : Row) → AsFar xs ys ts → Agree count xs ts → Agree count ys ts
as_far zero xs ys ts h e = refl
as_far (suc count) [] [] [] h e = refl
as_far (suc count) (x ∷ xs) (y ∷ ys) (t ∷ ts) h e =
    let same : x ≡ t = cc e in
    let rest : take count xs ≡ take count ts = cc e in
    ap₂ (λ z zs. z ∷ zs) (h same).0 (as_far count xs ys ts (h same).1 rest)
as_far count xs ys ts h e = absurd h

-- Where a row that can stand there is as close as any, the first cell in which it differs is the bad one.
pub closest : (CanStand : Row → Type 0) (row candidate : Row) (column : ℕ) → CanStand candidate → ((other : Row) → CanStand other → AsFar other candidate row)
    → DifferAt column candidate row → IsBadCell CanStand row column
closest CanStand row candidate column can far differs = record {
  after_kind = differs.after_kind;
  bad = λ other stands e. differs.there (as_far column other candidate row (far other stands) e);
  before = (candidate, can, inl differs.before);
}

-- rows that agree in two cells or more are of one kind
pub kind-agrees : (column : ℕ) (a b : Row) → 2 ≤ column → Agree column a b → Agree 1 a b
kind-agrees column a b h e = sym (take-take 1 column a (omega (arith, h))) ∙ ap (λ (r : Row). take 1 r) e ∙ take-take 1 column b (omega (arith, h))

bad-of-kind : (P Q : Row → Type 0) (row : Row) (column : ℕ) → ((other : Row) → P other → Q other) → ((other : Row) → Q other → Agree 1 other row → P other)
    → IsBadCell P row column → IsBadCell Q row column
bad-of-kind P Q row column up down h = record {
  after_kind = h.after_kind;
  bad = λ other stands e. h.bad other (down other stands (kind-agrees column other row h.after_kind e)) e;
  before = (h.before.0, up h.before.0 h.before.1, h.before.2);
}

-- Which rows can stand in the place of a row hangs on its kind.
pub of-kind : (P Q : Row → Type 0) (row : Row) (misfit : Misfit) → ((other : Row) → P other → Q other) → ((other : Row) → Q other → Agree 1 other row → P other)
    → IsCellFault P row misfit → IsCellFault Q row misfit
of-kind P Q row Kind up down h = h
of-kind P Q row (Cell column) up down h = bad-of-kind P Q row column up down h
of-kind P Q row NoMemory up down h = tt

-- a fault of a cell is one of the row
pub cell-fault : (P : Row → Type 0) (row : Row) (misfit : Misfit) → IsCellFault P row misfit → IsMisfit P row misfit
cell-fault P row Kind h = absurd h
cell-fault P row (Cell column) h = h
cell-fault P row NoMemory h = tt

-- where the same rows can stand, the same doesn't fit
pub same-rows : (P Q : Row → Type 0) (row : Row) (misfit : Misfit) → ((other : Row) → P other → Q other) → ((other : Row) → Q other → P other)
    → IsMisfit P row misfit → IsMisfit Q row misfit
same-rows P Q row Kind up down h = λ other stands. h other (down other stands)
same-rows P Q row (Cell column) up down h = bad-of-kind P Q row column up (λ other stands e. down other stands) h
same-rows P Q row NoMemory up down h = tt
