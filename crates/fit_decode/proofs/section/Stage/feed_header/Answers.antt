use Rattle.fit_decode.proofs.Common.{◌≡◌, ◌<◌, ◌⊎◌, [], length, inl, inr, refl, sym, ap, ◌∙◌, arith, eqb-true, chain_limit, Stage}
use Rattle.std.proofs.lemmas.List.{nil_from_length}
use Rattle.fit_decode.proofs.section.Stage.feed_header.Goals as goal
use Rattle.fit_decode.proofs.section.Stage.feed_header.Goals.{else-self-ge-CHAIN_LIMIT-via-then-self-ge-CHAIN_LIMIT+else-not-is_empty}
use Rattle.fit_decode.proofs.section.Stage.feed_header.Goals.{else-self-ge-CHAIN_LIMIT-via-else-self-ge-CHAIN_LIMIT}

pub returns-in-Ok-Some : goal.returns-in-Ok-Some
returns-in-Ok-Some c =
    let piece = c.args.piece.now in
    let stage : Stage = c.args.self.now in
    let told = rw (c.in-Ok-Some.is, c.in-Ok-Some.field-0-is) at c.scan_header-used.ensures in
    let few : stage.files < chain_limit = elim c.else-self-ge-CHAIN_LIMIT.branch [
      | else-self-ge-CHAIN_LIMIT-via-then-self-ge-CHAIN_LIMIT+else-not-is_empty w ↦
          absurd (omega (arith, told.0, told.1, eqb-true (length piece) 0 (sym w.is_empty.ensures ∙ w.if-not-is_empty.false)))
      | else-self-ge-CHAIN_LIMIT-via-else-self-ge-CHAIN_LIMIT w ↦ w.if-self-ge-CHAIN_LIMIT.false
    ] in (
      c.in-Ok-Some.header,
      refl,
      few,
      told.0,
      told.1,
      told.3,
      c.new.ensures.seen,
      c.cover.ensures,
      ap (λ s. record stage { section = s }) c.section_of-self.ensures,
      c.new-in-Ok-Some.ensures.begins,
      c.new-in-Ok-Some.ensures.room,
    )

pub returns-in-Ok-None : goal.returns-in-Ok-None
returns-in-Ok-None c =
    let piece = c.args.piece.now in
    let told = rw (c.in-Ok-None.is, c.in-Ok-None.field-0-is) at c.scan_header-used.ensures in
    let may : (c.args.self.now.files < chain_limit) ⊎ (piece ≡ []) = elim c.else-self-ge-CHAIN_LIMIT.branch [
      | else-self-ge-CHAIN_LIMIT-via-then-self-ge-CHAIN_LIMIT+else-not-is_empty w ↦
          inr (nil_from_length piece (eqb-true (length piece) 0 (sym w.is_empty.ensures ∙ w.if-not-is_empty.false)))
      | else-self-ge-CHAIN_LIMIT-via-else-self-ge-CHAIN_LIMIT w ↦ inl w.if-self-ge-CHAIN_LIMIT.false
    ] in
    (may, told, c.cover.ensures, refl)

pub returns-in-Err : goal.returns-in-Err
returns-in-Err c =
    let piece = c.args.piece.now in
    let told = rw c.in-Err.is at c.scan_header-used.ensures in
    let few : c.args.self.now.files < chain_limit = elim c.else-self-ge-CHAIN_LIMIT.branch [
      | else-self-ge-CHAIN_LIMIT-via-then-self-ge-CHAIN_LIMIT+else-not-is_empty w ↦
          absurd (omega (arith, told.0, eqb-true (length piece) 0 (sym w.is_empty.ensures ∙ w.if-not-is_empty.false)))
      | else-self-ge-CHAIN_LIMIT-via-else-self-ge-CHAIN_LIMIT w ↦ w.if-self-ge-CHAIN_LIMIT.false
    ] in
    inr (few, told.0, told.2, told.3)
