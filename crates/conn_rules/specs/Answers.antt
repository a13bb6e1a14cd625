-- Answers of common forms.
use Rattle.std.specs.Prelude.{List, [], Result, Ok, Err}
use Rattle.conn_rules.specs.declared.answer.Answer.{Answer}
use Rattle.conn_rules.specs.declared.answer.Reply.{Reply}
use Rattle.conn_rules.specs.declared.answer.Reply.TheVariants as reply
use Rattle.conn_rules.specs.declared.answer.News.{News}
use Rattle.conn_rules.specs.declared.answer.News.TheVariants as news
use Rattle.conn_rules.specs.declared.conn_step.ConnStep.{ConnStep}
use Rattle.conn_rules.specs.declared.refusal.Refusal.{Refusal}
use Rattle.conn_rules.specs.declared.stage.Stage.{Stage}

-- what comes of a packet: an answer, or a refusal
abbrev pub Judged : Type 0
Judged = Result Answer Refusal

-- nothing is replied or told
abbrev pub goes_to : Stage → Judged
goes_to next = Ok (record { reply = reply.Nothing; news = news.Nothing; next = next })

-- a reply alone
abbrev pub replies : Reply → Stage → Judged
replies what next = Ok (record { reply = what; news = news.Nothing; next = next })

-- news alone
abbrev pub tells : News → Stage → Judged
tells what next = Ok (record { reply = reply.Nothing; news = what; next = next })

-- ---- with what is found in a share PDU

-- something, and the steps beside it: the events or the areas of a share PDU
pub record Telling (A : Type 0) : Type 0 where
  pub what : A
  pub told : List ConnStep

abbrev pub telling : {A : Type 0} → A → List ConnStep → Telling A
telling what told = record { what = what; told = told }

-- an answer or a refusal, with these steps beside the answer
abbrev pub beside : List ConnStep → Judged → Result (Telling Answer) Refusal
beside told (Ok answer) = Ok (telling answer told)
beside told (Err refusal) = Err refusal

-- with none
abbrev pub alone : Judged → Result (Telling Answer) Refusal
alone judged = beside [] judged
