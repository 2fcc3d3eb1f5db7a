-- Until a fault a reading is after some files, and takes the next one.
use Rattle.fit_decode.proofs.Common.{[], ◌∷◌, ◌++◌, length, Ok, Err, refl, sym, ap, ◌∙◌, subst, layout, chain_limit, IsViable, IsEnd, Channel}
use Rattle.std.proofs.lemmas.Option.{none-some}
use Rattle.fit_decode.specs.contracts.readers.reading.Reading.{the_row}
use Rattle.fit_decode.specs.contracts.readers.reading.Reading.next.{S-row, A-row}
use Rattle.fit_decode.specs.Answers.{Seen}
use Rattle.fit_decode.specs.Reads.{channel}
use Rattle.fit_decode.proofs.NextRead.{after_file, comes_after, end_not_given, fault_given, keeps, next_chain, next_end, next_fault, next_file, next_given}
use Rattle.fit_decode.proofs.NextRead.{next_good, NextGiven}
use Rattle.fit_record.proofs.Sizes.{field_is_within}
use Rattle.fit_decode.proofs.readers.reading.Reading.next.Goals as goal

pub returns-in-Some-clause-latched : goal.returns-in-Some-clause-latched
returns-in-Some-clause-latched g c = rw (← c.self.view_is) (λ fault is. let both = sym c.in-Some.is ∙ is in (cc, refl))

pub read_file-requires : goal.read_file-requires
read_file-requires g c =
    let (files, beyond) = c.self.invariant c.in_default.is in (
      field_is_within 3 (layout (the_row (S-row g.row.S g.row.A) (A-row g.row.S g.row.A) g.S.Source g.A.Allocator)) _ assumption,
      (
        ap (λ (v : Seen). v.refusal) beyond.fed,
        (
          subst (λ (v : Seen). IsViable g.row.A.Denot chain_limit v.bytes) (sym beyond.fed) beyond.viable,
          (beyond.counted ∙ ap (λ (v : Seen). length v.bytes) (sym beyond.fed), (files, comes_after files _ _ _ beyond)),
        ),
      ),
    )

pub is_end-requires : goal.is_end-requires
is_end-requires g c = field_is_within 3 (layout (the_row (S-row g.row.S g.row.A) (A-row g.row.S g.row.A) g.S.Source g.A.Allocator)) _ assumption

-- ---- a file

pub invariant_of-self : goal.invariant_of-self
invariant_of-self g c = λ fresh.
    let (files, beyond) = c.self.invariant c.in_default.is in
    let r = c.in-Ok.ensures.read files (comes_after files _ _ _ beyond) in (
      files ++ c.in-Ok.file ∷ [],
      after_file files _ _ _ _ _ _ _ c.read_file.new.decoder c.read_file.new.count beyond c.in-Ok.ensures.counted
          c.in-Ok.ensures.viable c.in-Ok.file r,
    )

pub returns-in-Ok-clause-exact : goal.returns-in-Ok-clause-exact
returns-in-Ok-clause-exact g c =
    let (files, beyond) = c.self.invariant c.in_default.is in
    let r = c.in-Ok.ensures.read files (comes_after files _ _ _ beyond) in
    let file = next_file files _ _ _ _ _ _ _ c.read_file.new.decoder c.read_file.new.count beyond c.in-Ok.ensures.counted c.in-Ok.ensures.viable c.in-Ok.file r
    in
    let chain = next_chain files _ _ _ _ _ _ _ c.read_file.new.decoder c.read_file.new.count beyond c.in-Ok.ensures.counted c.in-Ok.ensures.viable c.in-Ok.file
    r in
    let good = next_good files _ _ _ _ _ _ _ c.read_file.new.decoder c.read_file.new.count beyond c.in-Ok.ensures.counted c.in-Ok.ensures.viable c.in-Ok.file r
    in
    rw (← c.self.view_is) (λ fresh. (r.got, r.eats, r.noted, file, chain, c.in_default.is, good))

pub returns-in-Ok-clause-file : goal.returns-in-Ok-clause-file
returns-in-Ok-clause-file g c =
    let (files, beyond) = c.self.invariant c.in_default.is in
    let r = c.in-Ok.ensures.read files (comes_after files _ _ _ beyond) in
    rw (← c.self.view_is)
    (λ fresh fs f b x input are file chain.
    next_given files _ _ _ _ _ _ _ c.read_file.new.decoder c.read_file.new.count beyond c.in-Ok.ensures.counted c.in-Ok.ensures.viable f b x (fs ++ f ∷ [])
    (Ok c.in-Ok.file) input are file chain r)

-- ---- the end

pub invariant_of-self-then-is_end : goal.invariant_of-self-then-is_end
invariant_of-self-then-is_end g c = λ fresh.
    let (files, beyond) = c.self.invariant c.in_default.is in
    let r = c.in-Err.ensures.read files (comes_after files _ _ _ beyond) in
    let end = subst (IsEnd g.row.A.Denot c.read_file.new.decoder c.in-Err.fault) c.if-is_end.true c.is_end.ensures in (
      files,
      (next_end files _ _ _ _ _ _ _ c.read_file.new.decoder c.read_file.new.count beyond c.in-Err.ensures.counted c.in-Err.ensures.viable c.in-Err.fault r
          end).still,
    )

pub returns-then-is_end-clause-exact : goal.returns-then-is_end-clause-exact
returns-then-is_end-clause-exact g c =
    let (files, beyond) = c.self.invariant c.in_default.is in
    let r = c.in-Err.ensures.read files (comes_after files _ _ _ beyond) in
    let end = subst (IsEnd g.row.A.Denot c.read_file.new.decoder c.in-Err.fault) c.if-is_end.true c.is_end.ensures in
    let e = next_end files _ _ _ _ _ _ _ c.read_file.new.decoder c.read_file.new.count beyond c.in-Err.ensures.counted c.in-Err.ensures.viable c.in-Err.fault r
    end in
    rw (← c.self.view_is) (λ fresh. (keeps _ _ e.kept, e.end, e.same, (files, e.whole), c.in_default.is, e.good))

pub returns-then-is_end-clause-file : goal.returns-then-is_end-clause-file
returns-then-is_end-clause-file g c =
    let (files, beyond) = c.self.invariant c.in_default.is in
    let r = c.in-Err.ensures.read files (comes_after files _ _ _ beyond) in
    let end = subst (IsEnd g.row.A.Denot c.read_file.new.decoder c.in-Err.fault) c.if-is_end.true c.is_end.ensures in
    let source : Channel = channel g.S.Source.remaining g.S.Source.has_failed c.self.inside.source c.read_file.new.source in
    rw (← c.self.view_is)
    (λ fresh fs f b x input are file chain.
    end_not_given f _ x source c.read_file.new.decoder c.in-Err.fault end
    (next_given files _ _ _ _ _ _ _ c.read_file.new.decoder c.read_file.new.count beyond c.in-Err.ensures.counted c.in-Err.ensures.viable f b x (fs ++ f ∷ [])
    (Err c.in-Err.fault) input are file chain r))

-- ---- a fault

pub returns-else-is_end-clause-exact : goal.returns-else-is_end-clause-exact
returns-else-is_end-clause-exact g c =
    let (files, beyond) = c.self.invariant c.in_default.is in
    let r = c.in-Err.ensures.read files (comes_after files _ _ _ beyond) in
    let end = subst (IsEnd g.row.A.Denot c.read_file.new.decoder c.in-Err.fault) c.if-is_end.false c.is_end.ensures in
    let told = next_fault files _ _ _ _ _ _ _ c.read_file.new.decoder c.read_file.new.count beyond c.in-Err.ensures.counted c.in-Err.ensures.viable
    (g.S.Source.remaining c.self.inside.source) c.in-Err.fault r end in
    rw (← c.self.view_is) (λ fresh. (r.got, r.eats, r.noted, told, refl))

pub returns-else-is_end-clause-file : goal.returns-else-is_end-clause-file
returns-else-is_end-clause-file g c =
    let (files, beyond) = c.self.invariant c.in_default.is in
    let r = c.in-Err.ensures.read files (comes_after files _ _ _ beyond) in
    let source : Channel = channel g.S.Source.remaining g.S.Source.has_failed c.self.inside.source c.read_file.new.source in
    subst (NextGiven g.S.Source.remaining source.after source.failed (Err c.in-Err.fault)) c.self.view_is
    (λ fresh fs f b x input are file chain.
    fault_given f _ x source c.in-Err.fault
    (next_given files _ _ _ _ _ _ _ c.read_file.new.decoder c.read_file.new.count beyond c.in-Err.ensures.counted c.in-Err.ensures.viable f b x (fs ++ f ∷ [])
    (Err c.in-Err.fault) input are file chain r))

pub returns-in-Some-clause-exact : goal.returns-in-Some-clause-exact
returns-in-Some-clause-exact g c = rw (← c.self.view_is) (λ none. absurd (none-some _ (sym none ∙ c.in-Some.is)))

pub returns-in-Some-clause-file : goal.returns-in-Some-clause-file
returns-in-Some-clause-file g c = rw (← c.self.view_is) (λ none fs f b x input are file chain. absurd (none-some _ (sym none ∙ c.in-Some.is)))

pub returns-in-Ok-clause-latched : goal.returns-in-Ok-clause-latched
returns-in-Ok-clause-latched g c = rw (← c.self.view_is) (λ fault is. absurd (none-some fault (sym c.in_default.is ∙ is)))

pub returns-then-is_end-clause-latched : goal.returns-then-is_end-clause-latched
returns-then-is_end-clause-latched g c = rw (← c.self.view_is) (λ fault is. absurd (none-some fault (sym c.in_default.is ∙ is)))

pub returns-else-is_end-clause-latched : goal.returns-else-is_end-clause-latched
returns-else-is_end-clause-latched g c = rw (← c.self.view_is) (λ fault is. absurd (none-some fault (sym c.in_default.is ∙ is)))
