use Rattle.std.proofs.Common.{◌∙◌, ◌<◌, ℕ, List, length, subst, sym}
use Rattle.std.proofs.lemmas.Result.{on_ok_weaker}
use Rattle.std.specs.Global.{Global}
use Rattle.fit_record.specs.declared.file.FitFile.{FitFile}
use Rattle.fit_record.specs.Files.{IsWellFormed}
use Rattle.std.specs.List.{AllByRecursion}
use Rattle.fit_writer.proofs.WholeFiles.{some_bytes}
use Rattle.fit_writer.proofs.chain.Chain.write.Goals as goal

pub returns-clause-works : goal.returns-clause-works
returns-clause-works g c = on_ok_weaker c.put_all.result (λ works.
    works (subst (λ (b : List ℕ). 0 < length b) (sym (c.as_slice.ensures.value ∙ c.self.invariant.bytes_are))
    (some_bytes c.self.inside.files.items (subst (λ (fs : List (FitFile Global)). 0 < length fs) (sym c.self.view_is) c.requires))))
    c.put_all.ensures.works

pub returns-clause-whole : goal.returns-clause-whole
returns-clause-whole g c = subst (λ (fs : List (FitFile Global)). AllByRecursion IsWellFormed fs) c.self.view_is c.self.invariant.each
