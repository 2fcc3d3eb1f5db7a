use Rattle.fit_csv.proofs.Common.{◌≡◌, ◌∙◌, ◌^◌, All, length, drop, ap, sym, subst, arith, length-pairs}
use Rattle.std.proofs.Common.{ℕ, ◌<◌, List}
use Rattle.fit_csv.proofs.HeaderRows.{rest-shown}
use Rattle.fit_csv.proofs.from.header.rest_in.Goals as goal

pub bytes_of-requires-clause-room : goal.bytes_of-requires-clause-room
bytes_of-requires-clause-room c =
    let long : length c.as_slice.result.now ≡ c.saturating_sub.result =
    ap length (c.as_slice.ensures ∙ c.in_ok-bytes.ensures.value) ∙ length-pairs c.saturating_sub.result (drop 2 c.args.cell.now) in
    let small = c.ranges.size.fits in
    omega (arith, long, c.saturating_sub.ensures, small)

pub returns-clause-size : goal.returns-clause-size
returns-clause-size c =
    ap length (c.bytes_of.ensures ∙ c.as_slice.ensures ∙ c.in_ok-bytes.ensures.value) ∙ length-pairs c.saturating_sub.result (drop 2 c.args.cell.now)
    ∙ c.saturating_sub.ensures

pub returns-clause-every : goal.returns-clause-every
returns-clause-every c bytes long small shows =
    c.bytes_of.ensures ∙ c.as_slice.ensures ∙ c.in_ok-bytes.ensures.value
    ∙ rest-shown bytes c.args.cell.now c.saturating_sub.result shows (long ∙ sym c.saturating_sub.ensures) small

pub returns-clause-small : goal.returns-clause-small
returns-clause-small c = subst (λ (bytes : List ℕ). All (λ b. b < 2 ^ 8) bytes) (sym (c.bytes_of.ensures ∙ c.as_slice.ensures)) c.in_ok-bytes.ensures.below
