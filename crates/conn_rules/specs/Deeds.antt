-- What a share PDU asks for is done.
use Rattle.std.specs.Prelude.{ℕ, Option, Some, None, Result, Ok, Err}
use Rattle.caps_sets.specs.declared.confirmed.Confirmed.{Confirmed}
use Rattle.share_pdu.specs.declared.finals.Final.{Final}
use Rattle.share_pdu.specs.declared.finals.Final.TheVariants as final
use Rattle.conn_rules.specs.declared.answer.Answer.{Answer}
use Rattle.conn_rules.specs.declared.answer.News.{News}
use Rattle.conn_rules.specs.declared.answer.News.TheVariants as news
use Rattle.conn_rules.specs.declared.answer.Reply.TheVariants as reply
use Rattle.conn_rules.specs.declared.conn_step.ConnStep.TheVariants as step
use Rattle.conn_rules.specs.declared.deed.Deed.{Deed}
use Rattle.conn_rules.specs.declared.deed.Deed.TheVariants as deed
use Rattle.conn_rules.specs.declared.refusal.Refusal.{Refusal}
use Rattle.conn_rules.specs.declared.stage.SharePhase.{SharePhase}
use Rattle.conn_rules.specs.declared.stage.SharePhase.TheVariants as phase
use Rattle.conn_rules.specs.declared.stage.Stage.TheVariants as stage
use Rattle.conn_rules.specs.Answers.{Judged, goes_to, tells, Telling, beside}
use Rattle.conn_rules.specs.Channels.{user_channel}
use Rattle.conn_rules.specs.Domain.{own}
use Rattle.conn_rules.specs.Numbers.{bad_share}

-- what is next after an answer of the finalisation; after the Font Map the client is ready
abbrev pub phase_after : Confirmed → Final → SharePhase
phase_after confirmed final.Synchronize = phase.Finish confirmed final.Cooperate
phase_after confirmed final.Cooperate = phase.Finish confirmed final.Granted
phase_after confirmed final.Granted = phase.Finish confirmed final.FontMap
phase_after confirmed final.FontMap = phase.Ready

abbrev pub news_with : Confirmed → Final → News
news_with confirmed final.Synchronize = news.Nothing
news_with confirmed final.Cooperate = news.Nothing
news_with confirmed final.Granted = news.Nothing
news_with confirmed final.FontMap = news.Step (step.Ready confirmed)

abbrev pub answered : ℕ → Confirmed → Final → Judged
answered channels confirmed which = Ok (record {
  reply = reply.Final which (user_channel channels);
  news = news_with confirmed which;
  next = stage.Shares channels (phase_after confirmed which);
})

abbrev pub done : ℕ → SharePhase → Deed → Judged
done channels here deed.Nothing = goes_to (stage.Shares channels here)
done channels here (deed.Confirm confirmed) = goes_to (stage.Shares channels (phase.Finish confirmed final.Synchronize))
done channels here (deed.Answer confirmed which) = answered channels confirmed which
done channels here deed.Tell = tells news.Pdu (stage.Shares channels here)
done channels here (deed.Suppress stop) = tells (news.Step (step.Suppress stop)) (stage.Shares channels here)
done channels here deed.Shutdown = tells (news.Step step.Shutdown) stage.Over

-- it is done for the client's own user channel as initiator; a PDU that isn't expected is refused at its first byte
abbrev pub deed_judged : ℕ → ℕ → ℕ → SharePhase → ℕ → Option Deed → Judged
deed_judged channels from user here place (Some what) = own channels from user (done channels here what)
deed_judged channels from user here place None = bad_share place

-- the same with what is found in the PDU
abbrev pub found_judged : ℕ → ℕ → ℕ → SharePhase → ℕ → Result (Telling (Option Deed)) Refusal → Result (Telling Answer) Refusal
found_judged channels from user here place (Ok found) = beside found.told (deed_judged channels from user here place found.what)
found_judged channels from user here place (Err refusal) = Err refusal
