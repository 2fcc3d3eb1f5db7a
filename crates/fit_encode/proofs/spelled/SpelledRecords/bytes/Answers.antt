use Rattle.fit_encode.proofs.Common.{◌≡◌, List, ◌<◌, ◌∙◌, length, subst, Record, empty_environment, records_bytes}
use Rattle.std.proofs.Common.{◌^◌}
use Rattle.std.specs.Global.{Global}
use Rattle.fit_encode.proofs.Kept.{bytes-kept}
use Rattle.fit_encode.proofs.spelled.SpelledRecords.bytes.Goals as goal

pub returns : goal.returns
returns c =
    subst (λ (rs : List (Record Global)). length (records_bytes empty_environment rs) < 2 ^ 32
    → c.as_slice.result.now ≡ records_bytes empty_environment rs) c.self.view_is
    (λ less. c.as_slice.ensures.value ∙ bytes-kept c.self.inside.bytes.items c.self.inside.count c.self.inside.too_long c.self.inside.records.items
    c.self.invariant less)
