-- The laws of the definitions, in one record.
use Rattle.block_visits.proofs.laws.blocks_share_the_sequences.Goals as goal

pub returns : goal.returns
returns c costs window ceiling century =
    let blocks = c.children_share_the_sequences.ensures in
    let list = c.items_share_the_sequences.ensures in record {
      century = century;
      key = λ b n q. c.bound_is_not_above.ensures.key costs window b n q;
      none = λ b q. c.bound_is_not_above.ensures.none costs window b q;
      blocks = λ b. blocks.blocks window b century;
      spans = λ b. blocks.spans window b century;
      within = λ b. blocks.within window b century;
      one = λ b q. blocks.one window b q century;
      items_are = list.blocks window century;
      one_item = λ q. list.one window q century;
      sequence = c.keys_differ.ensures.sequence;
      keys_within = λ k q. c.keys_differ.ensures.within ceiling k q;
      keys_beyond = λ k q. c.keys_differ.ensures.beyond ceiling k q;
    }
