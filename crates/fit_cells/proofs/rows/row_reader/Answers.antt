use Rattle.fit_cells.proofs.Common.{◌∙◌, sym, refl, ap, inr, Reached, strip_bom, with_flexible}
use Rattle.fit_cells.proofs.rows.row_reader.Goals as goal

pub returns : goal.returns
unfolding Reached
returns c =
    let from = c.from_reader.ensures in
    let setup = c.flexible.ensures ∙ ap (λ (b : _). with_flexible b _) c.has_headers.ensures in
    record {
      flexible = rw setup at from.flexible;
      trim = rw setup at from.trim ∙ c.new.ensures.trim;
      ready = inr (inr (rw setup at from.has_headers, from.headers));
      config = rw setup at from.config ∙ c.new.ensures.config;
      place = (strip_bom c.args.text.now, from.source, (sym from.state, refl));
    }
