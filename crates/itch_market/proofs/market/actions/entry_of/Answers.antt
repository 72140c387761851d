use Rattle.std.proofs.Common.{rules}
use Rattle.itch_market.proofs.Bytes.{bytes_by_place}
use Rattle.itch_market.proofs.market.actions.entry_of.Goals as goal

pub returns-clause-fits : goal.returns-clause-fits
returns-clause-fits c =
    record {
      stock = (c.recall_invariant.ensures.width, c.recall_invariant.ensures.printable);
      market_category = search rules;
      financial_status = search rules;
      round_lot_size = search rules;
      round_lots_only = search rules;
      issue_classification = search rules;
      issue_sub_type = bytes_by_place 2 _ (search rules) (λ k low. search rules);
      authenticity = search rules;
      short_sale_threshold = search rules;
      ipo_flag = search rules;
      luld_price_tier = search rules;
      etp_flag = search rules;
      etp_leverage_factor = search rules;
      inverse_indicator = search rules;
    }
