use Rattle.std.proofs.Common.{rules, ◌∙◌}
use Rattle.std.proofs.lemmas.Fn.{filter_same}
use Rattle.order_means.specs.ClientState.{are_apart}
use Rattle.client_caches.proofs.Apart.{filter_is_apart}
use Rattle.client_caches.proofs.blocks.keep_apart.Goals as goal

pub returns-clause-apart : goal.returns-clause-apart
returns-clause-apart c = filter_same _ (are_apart c.args.block.now) _ (λ x b f' k. search rules) _ _ c.retain.ensures.filtered ∙ filter_is_apart c.args.block.now c.args.blocks.now.items
