use Rattle.host_program.proofs.Asked.{fewer, no_size, no_links}
use Rattle.host_program.proofs.serving.hosting_of_args.Goals as goal

pub returns-in_default-clause-form : goal.returns-in_default-clause-form
returns-in_default-clause-form c = fewer (λ s. s.now) c.args.args.now c.in_default.len_below

pub returns-in_default-size_of_words-clause-form : goal.returns-in_default-size_of_words-clause-form
returns-in_default-size_of_words-clause-form c = no_size (λ s. s.now) c.args.args.now _ c.in-len5-up.len_at_least _ _ c.as_bytes-2.ensures.value c.as_bytes-3.ensures.value c.in_default-size_of_words.ensures.size

pub returns-in_default-read_count-2-clause-form : goal.returns-in_default-read_count-2-clause-form
returns-in_default-read_count-2-clause-form c = no_links (λ s. s.now) c.args.args.now _ c.in-len5-up.len_at_least _ c.as_bytes-4.ensures.value c.in_default-read_count-2.ensures
