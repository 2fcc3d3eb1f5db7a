use Rattle.fit_cells.proofs.Common.{◌^◌, option_map, base_type, meaning, item_text}
use Rattle.fit_cells.proofs.SplitFacts.{lone_list}
use Rattle.fit_cells.proofs.scan.read_items.Goals as goal

pub returns-in_ok-read_lone-clause-every : goal.returns-in_ok-read_lone-clause-every
returns-in_ok-read_lone-clause-every c =
    lone_list (item_text c.args.class c.args.code.0 (option_map meaning c.args.info) (base_type c.args.code.0).width) (256 ^ (base_type c.args.code.0).width)
    c.args.count c.args.text.now c.in_ok-read_lone.field-0 c.if-count-eq1.true c.in_ok-read_lone.ensures.every
