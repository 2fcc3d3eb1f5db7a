-- A chain, where its current file is kept with whether it is open.
use Rattle.fit_csv.proofs.Common.{◌≡◌, ◌∙◌, refl, sym, ap, subst, inr, Chain, ChainStep, FileStep, Global, FitFile, OpenFile}
use Rattle.std.proofs.Common.{ℕ, Bool, true, false, cond, List, Option, Some, None}
use Rattle.fit_cells.specs.Rows.{Row}
use Rattle.fit_csv.specs.inner.Judging.{TakesRows}

abbrev pub file_where : Bool → OpenFile → Option OpenFile
file_where open_ f = cond open_ (Some f) None

abbrev pub chain_of : List (FitFile Global) → Option OpenFile → Chain
chain_of files current = record { files = files; current = current }

module _ (c : Chain) (files : List (FitFile Global)) where
  pub open-current : (is_open : Bool) (f : OpenFile) → chain_of files (file_where is_open f) ≡ c → (file_where is_open f ≡ None → ⊥) → c.current ≡ Some f
  open-current true f is some = ap (λ (d : Chain). d.current) (sym is)
  open-current false f is some = absurd (some refl)

  pub open-step : (is_open : Bool) (f g : OpenFile) (row : Row) → chain_of files (file_where is_open f) ≡ c → (file_where is_open f ≡ None → ⊥)
      → FileStep f row g → ChainStep c row (chain_of files (file_where is_open g))
  open-step true f g row is some step = subst (λ (d : Chain). ChainStep d row (chain_of files (Some g))) is (inr (g, step, refl))
  open-step false f g row is some step = absurd (some refl)

  pub open-takes : (is_open : Bool) (f g : OpenFile) (text left : List ℕ) (count : ℕ) → chain_of files (file_where is_open f) ≡ c
      → (file_where is_open f ≡ None → ⊥) → TakesRows text left count (chain_of files (Some f)) (chain_of files (Some g))
      → TakesRows text left count c (chain_of files (file_where is_open g))
  open-takes true f g text left count is some takes = subst (λ (d : Chain). TakesRows text left count d (chain_of files (Some g))) is takes
  open-takes false f g text left count is some takes = absurd (some refl)
