-- The Client Info PDU ([MS-RDPBCGR] 2.2.1.11) in the sequence: the licence and Demand Active answer it.
use Rattle.std.specs.Prelude.{ℕ, List, Result, Ok, Err}
use Rattle.info_lic.specs.declared.info_fault.InfoFault.{InfoFault}
use Rattle.info_lic.specs.declared.info_fault.InfoFault.TheVariants.{BadInfo}
use Rattle.conn_rules.specs.declared.answer.Reply.TheVariants as reply
use Rattle.conn_rules.specs.declared.answer.News.TheVariants as news
use Rattle.conn_rules.specs.declared.client.Client.{Client}
use Rattle.conn_rules.specs.declared.conn_step.ConnStep.TheVariants as step
use Rattle.conn_rules.specs.declared.stage.Stage.TheVariants as stage
use Rattle.conn_rules.specs.declared.stage.SharePhase.TheVariants as phase
use Rattle.conn_rules.specs.Answers.{Judged}
use Rattle.conn_rules.specs.Domain.{own}
use Rattle.conn_rules.specs.Numbers.{place_behind, bad_info}

abbrev pub welcomed : Client → List ℕ → Judged
welcomed client name = Ok (record {
  reply = reply.Welcome client;
  news = news.Step (step.Named name);
  next = stage.Shares client.channels
      (phase.Confirm client.depth);
})

-- what was read of a body from a place on, in data of this initiator
abbrev pub info_judged : Client → ℕ → ℕ → ℕ → Result (List ℕ) InfoFault → Judged
info_judged client from user place (Ok name) = own client.channels from user (welcomed client name)
info_judged client from user place (Err (BadInfo at)) = bad_info (place_behind place at)
