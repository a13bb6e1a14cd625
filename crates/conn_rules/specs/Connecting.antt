-- Connecting ([MS-RDPBCGR] 1.3.1.1, connection initiation and basic settings exchange): the X.224 Connection Request, and the MCS
-- Connect-Initial with the client data of GCC.
use Rattle.std.specs.Prelude.{ℕ, List, Option, Some, None, Result, Ok, Err}
use Rattle.std.specs.List.{slice_range}
use Rattle.wire_num.specs.declared.range.Range.{Range}
use Rattle.tpkt_x224.specs.declared.request.Request.{Request}
use Rattle.tpkt_x224.specs.declared.bad_tpdu.BadTpdu.{BadTpdu}
use Rattle.mcs_ber.specs.declared.bad_ber.BadBer.{BadBer}
use Rattle.gcc_per.specs.declared.client_data.ClientData.{ClientData}
use Rattle.gcc_per.specs.declared.gcc_fault.GccFault.{GccFault}
use Rattle.gcc_per.specs.declared.gcc_fault.GccFault.TheVariants.{BadGcc, DepthNotOffered, TooManyChannels}
use Rattle.gcc_per.specs.ClientData.{client_data_of}
use Rattle.conn_rules.specs.declared.answer.Reply.TheVariants as reply
use Rattle.conn_rules.specs.declared.client.Client.{Client}
use Rattle.conn_rules.specs.declared.stage.Stage.TheVariants as stage
use Rattle.conn_rules.specs.Answers.{Judged, replies}
use Rattle.conn_rules.specs.Numbers.{place_behind, bad_tpdu, bad_ber, bad_gcc, depth_not_offered, too_many_channels}

-- the protocols that a request asks for, none without a negotiation request
abbrev pub protocols_of : Option ℕ → ℕ
protocols_of (Some asked) = asked
protocols_of None = 0

-- a request is confirmed
abbrev pub request_judged : Result Request BadTpdu → Judged
request_judged (Ok request) = replies (reply.Confirm request) (stage.Initial (protocols_of request.asked))
request_judged (Err fault) = bad_tpdu fault.at

-- what is remembered of client data
abbrev pub remembered : ClientData → Client
remembered given = record { channels = given.channels; width = given.asked_width; height = given.asked_height; build = given.build; depth = given.depth }

-- client data that begin at a place are answered by the server's
abbrev pub client_judged : ℕ → ℕ → Result ClientData GccFault → Judged
client_judged asked from (Ok given) = replies (reply.Response given.channels asked) (stage.Erect (remembered given))
client_judged asked from (Err (BadGcc at)) = bad_gcc (place_behind from at)
client_judged asked from (Err (DepthNotOffered at)) = depth_not_offered (place_behind from at)
client_judged asked from (Err (TooManyChannels at)) = too_many_channels (place_behind from at)

-- a Connect-Initial, which begins at a place, by where its user data stand
abbrev pub initial_judged : ℕ → ℕ → List ℕ → Result Range BadBer → Judged
initial_judged asked from bytes (Ok place) = client_judged asked (place_behind from place.from) (client_data_of (slice_range bytes place.from place.to))
initial_judged asked from bytes (Err fault) = bad_ber (place_behind from fault.at)
