-- The MCS domain PDUs of a client in their sequence ([MS-RDPBCGR] 1.3.1.1, channel connection), and where data may go. A PDU begins
-- at a place of its packet, its initiator a byte behind that, and its channel three bytes behind it.
use Rattle.std.specs.Prelude.{ℕ, ◌==◌, Bool, true, false, Result, Ok, Err, if◌then◌else◌}
use Rattle.mcs_dom.specs.declared.bad_domain.BadDomain.{BadDomain}
use Rattle.mcs_dom.specs.declared.domain_pdu.DomainPdu.{DomainPdu}
use Rattle.mcs_dom.specs.declared.domain_pdu.DomainPdu.TheVariants.{Erect, Attach, Join, Data, Bye}
use Rattle.conn_rules.specs.declared.answer.Reply.TheVariants as reply
use Rattle.conn_rules.specs.declared.answer.News.TheVariants as news
use Rattle.conn_rules.specs.declared.client.Client.{Client}
use Rattle.conn_rules.specs.declared.conn_step.ConnStep.TheVariants as step
use Rattle.conn_rules.specs.declared.refusal.Refusal.{Refusal}
use Rattle.conn_rules.specs.declared.stage.Stage.{Stage}
use Rattle.conn_rules.specs.declared.stage.Stage.TheVariants as stage
use Rattle.conn_rules.specs.Answers.{Judged, goes_to, replies, tells}
use Rattle.conn_rules.specs.Channels.{io_channel, user_channel, is_virtual_or_user}
use Rattle.conn_rules.specs.Numbers.{place_behind, bad_domain, wrong_channel}

-- the PDU that was read of bytes from a place on
abbrev pub placed_pdu : ℕ → Result DomainPdu BadDomain → Result DomainPdu Refusal
placed_pdu from (Ok pdu) = Ok pdu
placed_pdu from (Err fault) = bad_domain (place_behind from fault.at)

-- an ultimatum ends the stream
abbrev pub leaves : Judged
leaves = tells (news.Step step.Bye) stage.Over

-- Erect Domain Request
abbrev pub erect_judged : Client → ℕ → DomainPdu → Judged
erect_judged client from Erect = goes_to (stage.Attach client)
erect_judged client from Attach = bad_domain from
erect_judged client from (Join user channel) = bad_domain from
erect_judged client from (Data user channel body) = bad_domain from
erect_judged client from (Bye reason) = leaves

-- Attach User Request
abbrev pub attach_judged : Client → ℕ → DomainPdu → Judged
attach_judged client from Erect = bad_domain from
attach_judged client from Attach = replies (reply.Attached (user_channel client.channels)) (stage.Joins client false false)
attach_judged client from (Join user channel) = bad_domain from
attach_judged client from (Data user channel body) = bad_domain from
attach_judged client from (Bye reason) = leaves

-- ---- channels and initiators

-- goes on for the client's own user channel as initiator; another one is refused at its field
abbrev pub own : {A : Type 0} → ℕ → ℕ → ℕ → Result A Refusal → Result A Refusal
own channels from user judged = if user == user_channel channels then judged else wrong_channel (place_behind from 1)

-- a channel that isn't the client's is refused at its field
abbrev pub no_channel : ℕ → Judged
no_channel from = wrong_channel (place_behind from 3)

-- a join of the user channel, of 1003, or of a static virtual channel; which of the first two were joined before
abbrev pub joined : Client → ℕ → Bool → Bool → ℕ → Judged
joined client from user io channel =
    if channel == io_channel then replies (reply.Joined (user_channel client.channels) channel) (stage.Joins client user true)
    else (if channel == user_channel client.channels then replies (reply.Joined (user_channel client.channels) channel) (stage.Joins client true io)
    else (if is_virtual_or_user client.channels channel then replies (reply.Joined (user_channel client.channels) channel) (stage.Joins client user io)
    else no_channel from))

-- data on another channel than 1003 are dropped on the client's own
abbrev pub dropped : ℕ → ℕ → ℕ → Stage → Judged
dropped channels from channel next = if is_virtual_or_user channels channel then goes_to next else no_channel from

-- data go to 1003, where they are judged by what they carry, or are dropped
abbrev pub by_channel : ℕ → ℕ → ℕ → ℕ → Stage → Judged → Judged
by_channel channels from user channel next carried =
    if channel == io_channel then carried else own channels from user (dropped channels from channel next)

-- data before the user channel and 1003 are joined
abbrev pub too_early : ℕ → ℕ → ℕ → Judged
too_early channels from user = own channels from user (no_channel from)
