use Rattle.fit_encode.proofs.Common.{◌≡◌, ℕ, sym, ◌∙◌, subst, IsPlaceFault, ShapeFault, NoLocal, NoOffset, NotDefined, WrongField, shape_fault, NoMemory, arith}
use Rattle.fit_encode.specs.declared.fault.EncodeFault.TheVariants.{DeclaredLength}
use Rattle.fit_encode.proofs.Encoders.{of_shape}
use Rattle.fit_encode.proofs.encoder.record_size.Goals as goal

pub returns-in-Err-clause-err : goal.returns-in-Err-clause-err
returns-in-Err-clause-err g c =
    subst (IsPlaceFault c.args.env.now c.args.count c.args.declared c.args.size c.args.r.now) (sym c.shape_fault.ensures)
    (of_shape c.args.env.now c.args.count c.args.declared c.args.size c.args.r.now c.in-Err.fault c.in-Err.ensures.err)

-- No wrong record is want of memory.
not_memory : (file index : ℕ) (f : ShapeFault) → shape_fault file index f ≡ NoMemory → ⊥
not_memory file index NoLocal is = cc
not_memory file index NoOffset is = cc
not_memory file index NotDefined is = cc
not_memory file index (WrongField field) is = cc

pub returns-in-Err-clause-memory : goal.returns-in-Err-clause-memory
returns-in-Err-clause-memory g c = λ is. not_memory 1 c.args.count c.in-Err.fault (sym c.shape_fault.ensures ∙ is)

not_want : DeclaredLength ≡ NoMemory → ⊥
not_want is = cc

pub fits-requires : goal.fits-requires
fits-requires g c = assumption

pub overflow_sub-declared : goal.overflow_sub-declared
overflow_sub-declared g c = c.requires

pub returns-in-Err-clause-ok : goal.returns-in-Err-clause-ok
returns-in-Err-clause-ok g c = tt

pub returns-then-more-declared-clause-ok : goal.returns-then-more-declared-clause-ok
returns-then-more-declared-clause-ok g c = tt

pub returns-then-more-declared-clause-err : goal.returns-then-more-declared-clause-err
returns-then-more-declared-clause-err g c = (c.in-Ok.ensures.ok.0, omega (arith, c.in-Ok.ensures.ok.1, c.if-more-declared.true, c.requires))

pub returns-then-more-declared-clause-memory : goal.returns-then-more-declared-clause-memory
returns-then-more-declared-clause-memory g c = not_want

pub returns-else-more-declared-clause-ok : goal.returns-else-more-declared-clause-ok
returns-else-more-declared-clause-ok g c =
    let fits = c.in-Ok.ensures.ok in
    (record { fits = fits.0; within = omega (arith, fits.1, c.if-more-declared.false, c.requires) }, fits.1)

pub returns-else-more-declared-clause-err : goal.returns-else-more-declared-clause-err
returns-else-more-declared-clause-err g c = tt

pub returns-else-more-declared-clause-memory : goal.returns-else-more-declared-clause-memory
returns-else-more-declared-clause-memory g c = tt
