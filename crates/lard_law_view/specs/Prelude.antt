-- The words that laws are written in, handed on from the crates below and from the definitions of this one: a file of a law names them in one
-- line. Constructors are named by their type. tools/prelude writes this.
pub use Rattle.lard_base.specs.Causes.{Rose}
pub use Rattle.lard_base.specs.Config.{AreKeysInRange, checked_from, config_check, is_in_range, range_check, room_of, set_key, standard, value_of}
pub use Rattle.lard_base.specs.Members.{has}
unfoldable pub use Rattle.lard_base.specs.Members.{node_numbers}
pub use Rattle.lard_base.specs.Outside.{TakesIn, WrotePrefix}
pub use Rattle.lard_base.specs.Parts.{IsValidParts}
pub use Rattle.lard_base.specs.Spelling.{key_word}
pub use Rattle.lard_base.specs.declared.config.Config.{Config}
pub use Rattle.lard_base.specs.declared.config.ConfigFault.{ConfigFault}
pub use Rattle.lard_base.specs.declared.config.Key.{Key}
pub use Rattle.lard_base.specs.declared.event.Event.{Event}
pub use Rattle.lard_base.specs.declared.ids.Epoch.{Epoch}
pub use Rattle.lard_base.specs.declared.ids.Millis.{Millis}
pub use Rattle.lard_base.specs.declared.limits.TheConstants.{MAX_FIELDS, MAX_FILE_BYTES, MAX_INPUT_BYTES, MAX_PACKETS, MAX_PACKET_BYTES, MAX_RECORDS, MAX_RESPONSE_BYTES, MAX_SEGMENT_BYTES, MAX_SEGMENT_DATA, MAX_STREAM_BYTES, RECEIVE_WINDOW}
pub use Rattle.lard_base.specs.declared.parts.EndpointParts.{EndpointParts}
pub use Rattle.lard_base.specs.declared.place.Place.{Place}
pub use Rattle.lard_base.specs.declared.place.Place.TheVariants.{Client, Front, Node}
pub use Rattle.lard_base.specs.declared.place.Reason.{Reason}
pub use Rattle.lard_base.specs.declared.place.TimerKind.{TimerKind}
pub use Rattle.lard_base.specs.declared.place.Via.{Via}
pub use Rattle.lard_table.specs.Table.{put_or}
pub use Rattle.lard_seq.specs.Seq.{one_if, seq_add, seq_offset}
pub use Rattle.lard_segment.specs.Checksum.{checksum_of}
pub use Rattle.lard_segment.specs.Fields.{double_word_at, flags_byte, flags_of, source_port, target_port, word_at}
pub use Rattle.lard_segment.specs.Options.{mss_in, option_bytes}
pub use Rattle.lard_segment.specs.Segment.{IsSendable, Said, are_ports, begins_at, fixed_bytes, with_checksum, with_data, with_mss}
unfoldable pub use Rattle.lard_segment.specs.Segment.{decoded, spelled}
pub use Rattle.lard_segment.specs.declared.fault.SegFault.{SegFault}
pub use Rattle.lard_segment.specs.declared.segment.Dir.{Dir}
pub use Rattle.lard_segment.specs.declared.segment.Dir.TheVariants.{ToClient, ToCluster}
pub use Rattle.lard_segment.specs.declared.segment.Flags.{Flags}
pub use Rattle.lard_segment.specs.declared.segment.Ready.{Ready}
pub use Rattle.lard_arrival.specs.Arrival.{IsPartAt, bare, is_acceptable, is_allowed, is_in_window, last_number, peer_mss, seg_len}
pub use Rattle.lard_recv.specs.Recv.{IsUnusedPart, Received, arrived, awaited, begins_after, bytes_taken, consumed, discarded, ends, fresh_bytes, gained, receive_room, restored}
pub use Rattle.lard_send.specs.Send.{IsSending, IsUnacknowledgedPart, Sending, acknowledged_bytes, after_ack, after_next, after_resend, again_fin, again_len, byte_piece, introduced, is_clear, is_newer, may_send, moved_up, next_fin, next_len, next_piece, queued_too, resent_piece, resumed, send_begun, send_closed, send_left, symbols, syn_piece, unsent_bytes, windowed}
unfoldable pub use Rattle.lard_send.specs.Send.{peer_room}
pub use Rattle.lard_endpoint.specs.Arriving.{on_ack, on_acked, on_rst, on_segment, on_syn, on_text, on_unacceptable, owing}
pub use Rattle.lard_endpoint.specs.Control.{ControlBlock, IsControlBlock, consuming, discarding_on, finishing, listening, queueing, rcv_nxt, rcv_wnd, snd_nxt}
pub use Rattle.lard_endpoint.specs.Laws.{IsTrueData}
pub use Rattle.lard_endpoint.specs.Leaving.{ack_ready, advanced, after_emit, after_owed, after_piece, after_timer, emits_left, emitted, filled, owed_ready, owes, own_mss, piece_ready, piece_seq, ready_of, retried, timed, told}
pub use Rattle.lard_endpoint.specs.Moving.{adopted, end_reason, final_of, is_closed, may_end, may_freeze, parts_of}
pub use Rattle.lard_endpoint.specs.declared.control.arriving.Arrival.{Arrival}
pub use Rattle.lard_endpoint.specs.declared.control.moving.Final.{Final}
pub use Rattle.lard_client.specs.Arriving.{accepting, answers_syn, client_begins_after, client_ends, client_on_ack, client_on_rst, client_on_segment, client_on_syn, client_on_text, client_on_unacceptable, client_owing, client_part_of, client_room, established, fresh_len, heard_in, heard_nothing, heard_open, known, on_fresh, on_greeting, reply_to, reset_by_peer}
unfoldable pub use Rattle.lard_client.specs.Arriving.{client_arrived}
pub use Rattle.lard_client.specs.Control.{ClientBlock, IsClientBlock, aborted, client_opened, client_rcv_nxt, client_rcv_wnd, client_snd_nxt, client_taken, client_written, held_on, is_aborted_in, is_client_armed, is_client_open, is_established, is_holding, is_open_in, is_writing, shut_down, written_len}
pub use Rattle.lard_client.specs.Laws.{IsAwaitedPart, IsInOrder, IsNextOf, IsTrueSegment, counts}
pub use Rattle.lard_client.specs.Leaving.{abort_ready, client_ack_ready, client_after_emit, client_after_owed, client_after_piece, client_after_timer, client_emitted, client_filled, client_owed_ready, client_owes, client_piece_ready, client_ready_of, client_refusal, client_timed, client_told, data_ready, reset_ready, syn_ready, unsaid}
pub use Rattle.lard_client.specs.declared.heard.Heard.{Heard}
pub use Rattle.lard_client.specs.declared.phase.Phase.{Phase}
pub use Rattle.lard_block.specs.Blocks.{Cuts, Head, IsWithin, Long, piece_moved, pieces_from}
unfoldable pub use Rattle.lard_block.specs.Blocks.{blocks, cut_of, head_end, pieces, skipped}
pub use Rattle.lard_block.specs.declared.block.Found.{Found}
unfoldable pub use Rattle.lard_request.specs.Fields.{has_content, has_good_host, is_close, says_close, values}
unfoldable pub use Rattle.lard_request.specs.Head.{blank_lines, field, head_of, newline, run, section, version, word}
pub use Rattle.lard_request.specs.Target.{absolute_path, authority_len, is_query, path_behind, without_query}
unfoldable pub use Rattle.lard_request.specs.Target.{path_of}
pub use Rattle.lard_request.specs.Verdict.{asked, closes, is_get, is_head, path_verdict, verdict_of}
unfoldable pub use Rattle.lard_request.specs.Verdict.{has_bare_feed, head_verdict, pairs_in, verdict}
pub use Rattle.lard_request.specs.declared.verdict.Code.{Code}
pub use Rattle.lard_request.specs.declared.verdict.Verdict.{Verdict}
pub use Rattle.lard_response.specs.Response.{close_line, length_line, number, reason, response_body, status_line}
unfoldable pub use Rattle.lard_response.specs.Response.{response}
pub use Rattle.lard_answers.specs.Answers.{FilesAt, IsPrefix, answer, answer_bytes, answer_code, closes_any, found, found_code, good_path, goods_from, numbered, piece_verdict, verdicts_on}
unfoldable pub use Rattle.lard_answers.specs.Answers.{answers, goods, until_close, verdicts}
pub use Rattle.lard_reader.specs.Batches.{batch_of, batch_pieces}
unfoldable pub use Rattle.lard_reader.specs.Batches.{bytes_used}
pub use Rattle.lard_files.specs.Files.{add_check, file_at, files_total, first_fault}
pub use Rattle.lard_files.specs.declared.fault.FileFault.{FileFault}
pub use Rattle.lard_net.specs.Net.{Packet, bytes_in, lose_at, packet_at}
pub use Rattle.lard_journal.specs.Inner.{turned_at}
pub use Rattle.lard_journal.specs.Range.{IsChoiceInRange, IsConfigInRange, IsEventInRange, IsFileInRange, IsNumber, IsPlaceInRange, IsRecordInRange, IsReportInRange, IsUnspaced, IsViaInRange}
pub use Rattle.lard_journal.specs.Report.{file_text, rec_line, report}
unfoldable pub use Rattle.lard_journal.specs.Report.{heading_line}
pub use Rattle.lard_journal.specs.declared.rec.Rec.{Rec}
pub use Rattle.lard_message.specs.Kinds.{is_version, kind_named, kind_number, version_of}
pub use Rattle.lard_message.specs.Laws.{AreBytes}
pub use Rattle.lard_message.specs.Message.{FitsFields, IsCount, IsMessage, IsNodeNumber, IsOfTable, body_bytes, counted_bytes, flag_byte, header_bytes, kind_of, parts_bytes, parts_numbers, reason_byte}
unfoldable pub use Rattle.lard_message.specs.Message.{spelled_message}
pub use Rattle.lard_message.specs.Reading.{body_at, byte_at, connection_at, epoch_at, is_of_table, length_at, number_at, number_byte, taken_at, version_at, with_body, with_kind}
unfoldable pub use Rattle.lard_message.specs.Reading.{ask_at, content_at, counted_at, decoded_message, ended_body_at, fetch_at, flag_at, give_at, nodes_of, offer_at, parts_at, paths_at, reason_at, tag_at}
pub use Rattle.lard_message.specs.declared.fault.MsgFault.{MsgFault}
pub use Rattle.lard_message.specs.declared.kind.Kind.{Kind}
pub use Rattle.lard_message.specs.declared.message.Body.{Body}
pub use Rattle.lard_message.specs.declared.message.Message.{Message}
pub use Rattle.lard_resend.specs.Kept.{AreInOrder, comes_before, is_under, kept_place_of, kind_rank, without}
pub use Rattle.lard_resend.specs.Pending.{list_of, sent_of}
pub use Rattle.lard_resend.specs.declared.kept.Kept.{Kept}
pub use Rattle.lard_lateral.specs.Lateral.{fetch_kept, fetching, is_from, is_node, names_epoch}
pub use Rattle.lard_handoff_front.specs.Front.{asked_node, end_answer, ended_row, ended_with, next_epoch}
pub use Rattle.lard_handoff_front.specs.Returns.{give_answer, refused_answer, returned_row}
pub use Rattle.lard_handoff_front.specs.Row.{is_away, is_waiting, offered_to}
pub use Rattle.lard_handoff_front.specs.declared.row.FrontConn.{FrontConn}
pub use Rattle.lard_handoff_front.specs.declared.row.FrontRow.{FrontRow}
pub use Rattle.lard_handoff_front.specs.declared.table.OnEnded.{OnEnded}
pub use Rattle.lard_handoff_back.specs.Back.{awaits_ack, back_endpoint, offer_answer, staying}
pub use Rattle.lard_handoff_back.specs.Leaving.{offer_decision}
pub use Rattle.lard_handoff_back.specs.Row.{back_held, is_ended, is_gone}
pub use Rattle.lard_handoff_back.specs.declared.row.BackConn.{BackConn}
pub use Rattle.lard_handoff_back.specs.declared.row.BackRow.{BackRow}
pub use Rattle.lard_handoff_back.specs.declared.table.Adopt.{Adopt}
pub use Rattle.lard_loads.specs.Charges.{BatchOver, Charge, Connect, IsConnection, LoadCall, MayCallAll, Release, charges_from, is_charge_of, is_home, is_share_of, tally_after, tally_after_all, units_at}
pub use Rattle.lard_loads.specs.Tally.{Standing, Tally, admitted, batch_ended, batch_ended_with, connected, connections, has_other_open, home, home_of, is_open, load, numbers, open_shares, released, shared, shares_of, sharing, tally_closed, tally_start, units_of, units_of_share}
unfoldable pub use Rattle.lard_loads.specs.Tally.{most_connections}
pub use Rattle.lard_sets.specs.Laws.{NameNodes, RemoveKept, SetCall, changed, changed_after, serves_after, serves_after_all, sets_after_call, sets_after_calls}
pub use Rattle.lard_sets.specs.Laws.SetCall.{Add, Close, Remove, Touch}
pub use Rattle.lard_sets.specs.Sets.{added, has_place, place, put, removed, set_of, sets_closed, touched}
pub use Rattle.lard_sets.specs.declared.sets.ServerSet.{ServerSet}
pub use Rattle.lard_policy.specs.First.{least_node}
unfoldable pub use Rattle.lard_policy.specs.First.{first_choice}
pub use Rattle.lard_policy.specs.declared.first.FirstChoice.{FirstChoice}
pub use Rattle.lard_costs.specs.Costs.{cost_at, is_less}
pub use Rattle.lard_costs.specs.Later.{cheapest, stays}
unfoldable pub use Rattle.lard_costs.specs.Later.{later_choice, members_of}
pub use Rattle.lard_costs.specs.declared.cost.Cost.{Cost}
pub use Rattle.lard_costs.specs.declared.later.LaterChoice.{LaterChoice}
pub use Rattle.lard_dispatch.specs.Books.{Books, Dispatcher, dispatch_begun}
pub use Rattle.lard_dispatch.specs.Calls.{admitted_with, after_close, after_first, all_choices, all_shared, batch_over, choice_at, ended_answer, first_answer, is_full, joined, later_answer, later_choice_at, next_admission, next_admitted, reduced, released_from, shared_with}
pub use Rattle.lard_dispatch.specs.Laws.{AreAllowed, Call, after_call, after_calls}
pub use Rattle.lard_dispatch.specs.Line.{is_of, line_waits, line_without}
pub use Rattle.lard_dispatch.specs.Loads.{ClosesNone, IsCallInRange, MayBeMade, connections_at, is_home_of_node, loads_after}
pub use Rattle.lard_dispatch.specs.Sound.{AreApart, AreAtNodes, AreServedByNodes, IsDispatcherSound, IsNode}
pub use Rattle.lard_dispatch.specs.declared.dispatch.Ask.{Ask}
pub use Rattle.lard_dispatch.specs.declared.dispatch.First.{First}
pub use Rattle.lard_dispatch.specs.declared.dispatch.Later.{Later}
pub use Rattle.lard_dispatch.specs.declared.line.Waiting.{Waiting}
pub use Rattle.lard_cache.specs.Recency.{Recency, after_hit, after_put, brought_forward, front_within, has_path, in_front, size_at}
pub use Rattle.lard_cache.specs.declared.cache.TheConstants.{MAX_CACHED_PATHS}
pub use Rattle.lard_disk.specs.Jobs.{is_for, job_at, without_job}
pub use Rattle.lard_disk.specs.declared.disk.Job.{Job}
pub use Rattle.lard_history.specs.Journal.{Numbers, Tale, about, accepted, accepted_step, acting, acting_at, acting_in, answered_bytes, answered_step, armed_step, assigned, assignments, assignments_of, assignments_step, assignments_taken, bytes_step, epoch_step, event_shuts, fin_sent, goal_of, goal_step, goes_to, has_closed, home_step, home_told, in_step, is_cluster, is_in, is_kind, is_lost, is_node_closed, is_place, is_running, is_touched, last_epoch, last_event, last_event_step, lost_step, next_answer, next_verdict, node_closed_step, numbers_of, numbers_step, owner, owner_step, packet_bytes, request, reset_step, said_fin, said_to, sent_count, sent_step, served, served_bytes, served_bytes_step, served_step, tale_step, time_of, time_step, told_on, touched_step, untold, was_reset, wrote, wrote_step}
unfoldable pub use Rattle.lard_history.specs.Journal.{tale}
pub use Rattle.lard_history.specs.Laws.{AcceptsOnlyAnswers, ActsInPlace, AreOwn, EachMay, Follows, IsNetwork, IsOwnership, IsSoleSender, IsStep, IsTold, KeepsTime, MayAct, MayInNetwork, MayOwn, MayReset, MaySend, MayTell, MayTime, MayWrite, OwnerSends, ResetsAtTheLimit, TellsTheTruth, ToldTo, WritesWhileOpen, first_place, is_own}
pub use Rattle.lard_history.specs.Own.{Came, EachRow, Has, Letter, Row, Seen, came_seen, conn_of, event_conn, letter_of, letters_in, named_in, net_of, net_step, one_of, plain, seen_of, seen_on, seen_step, tale_of, whose}
unfoldable pub use Rattle.lard_history.specs.Own.{letters, own}
pub use Rattle.lard_history.specs.Steps.{AtEachEnd, EachStep, HoldsBefore, is_opening, split, steps}
pub use Rattle.lard_rules.specs.Bounds.{HasRule, HasTimer, IsConnNumber}
pub use Rattle.lard_rules.specs.Client.{ClientFires, ClientGets, ClientReceives, ToAbort, ToGet, ToHold, ToShut, ToTake, ToWrite, accepted_note, client_aborts, client_gets, client_holds, client_injects, client_opens, client_rule, client_shuts, client_takes, client_timer, client_writes, eof_note, silent, speaking, station_ready_of}
pub use Rattle.lard_rules.specs.Front.{AskedBy, Did, EndedBy, FrontAdmits, FrontDeed, FrontEnv, FrontFires, FrontGets, FrontHears, FrontPart, ReturnedBy, TakenBy, ack_sent, admitted_by, ask_of, asked_by, assigned_notes, back_answer, back_notes, back_part, back_rest, assigns, does_first, fires_at, forwarded, front_admitted, front_armed, front_asked, front_begun, front_ended, front_ended_by, front_ends, front_fired, front_fired_by, front_gets, front_hears, front_rest, front_rests, front_returned, front_rule, front_saying, front_taken, front_timer, given_sent, handed_off, heard, hears_at, holds, is_row_at, is_with, leaves_by, met, offer_kept, offering, over_note, parts_back, parts_in, parts_kept, parts_read, placed, reads_on, rest_after, returned_by, row_armed, settled_by, stage_after, stage_armed, stands_first, tag_sent, taken_by, turn_here, waits_on}
pub use Rattle.lard_rules.specs.FrontPlace.{FrontSetting, admits, admits_too, closed_note, ended_deed, front_deed, front_did, front_drains, front_env, front_joined, front_out_of, front_part, front_put, front_step, front_timers, front_told, in_order, message_comes, put_back}
pub use Rattle.lard_rules.specs.FrontReading.{MayMove, Reading, block_at, front_reads, reading_left, reading_turn, reads_block, reads_found, targeted, with_service}
pub use Rattle.lard_rules.specs.FrontSound.{DispatchStanding, HasTarget, IsFrontSound, IsPartSound, IsRowSound, IsStageSound, MayClose, MayCloseBy, MayCloseOn, Serves, Waits, dispatch_standing, nowhere}
pub use Rattle.lard_rules.specs.Limits.{limit_of}
pub use Rattle.lard_rules.specs.Loop.{Done, More, Step, state_of}
unfoldable pub use Rattle.lard_rules.specs.Loop.{runs_on}
pub use Rattle.lard_rules.specs.Machine.{IsReached, Passes, Steps, client_acted, client_goes_on, client_put, disk_at, from_place, front_acts, front_gave, front_setting, happens, is_no_job, is_no_node, limit_reached, machine_start, machine_to_client, machine_to_front, node_acts, node_at, node_gave, node_setting, passed, segments_sent, timer_at, to_place, told_rows, unless_limit}
unfoldable pub use Rattle.lard_rules.specs.Machine.{client_acts, clocked, completes, delivered, drained, lost, machine_opened, machine_step, machine_told, machine_wrote, timer}
pub use Rattle.lard_rules.specs.Node.{Acknowledged, Completed, Content, Fires, Forwarded, Leaves, NodeDeed, NodeGets, NodePart, Offered, Tagged, again_sent, all_sent, anew, ask_kept, asked_kept, asked_sent, awaits_told, both_of, come_by, ended_kept, ended_sent, fetch_of, gave_by, give_kept, gives_back, goes_back_by, gone, here, holds_kind, is_tag_awaited, is_to_read, is_unsaid, kept_after, kept_back, kept_refused, may_give_back, node_acknowledged, node_armed, node_begins, node_content, node_fired, node_fired_by, node_forwarded, node_goes_back, node_heard_by, node_offered, node_read, node_read_by, node_rests, node_rule, node_saying, node_tagged, node_timer, node_turns, offered_by, refused_sent, reset_count, stay_after, tagged_by, taken_sent, told_kind, turn_back, turn_by, wants_kept, wants_sent, with_work, work_of}
pub use Rattle.lard_rules.specs.NodePlace.{NodeSetting, aside, completed, content_bytes, content_sent, disk_step, fetched, fetched_file, hit_step, hits, node_leaves, leaves_at, no_stays, node_brought, node_deed, node_env, node_epoch_at, node_gets, node_hears, node_out, node_part, node_put, node_step, node_timers, stores_told, with_first}
pub use Rattle.lard_rules.specs.Outs.{kind_change, nothing_done, out_of, timer_change, timer_kinds}
pub use Rattle.lard_rules.specs.Sent.{packet_of, packets_of, sent_records}
pub use Rattle.lard_rules.specs.Serving.{ServeEnv, Service, answered, closed_behind, cut_off, ended_at_fin, limit_said, may_read, passed_over, queued, rested, serving, serving_consumed, serving_ready_of, serving_settled, serving_told, spoken, turn_of}
pub use Rattle.lard_rules.specs.Speaking.{client_speaks, has_symbol, listed, speaks, speaks_symbols, to_client, to_front}
unfoldable pub use Rattle.lard_rules.specs.Speaking.{client_emits, emits, emits_symbols}
pub use Rattle.lard_rules.specs.Stay.{NodeEnv, Work, and_path, asks_for, came_for, come_on, come_progress, entered, enters_first, goes_on, hit_here, left_by, named_path, named_paths, next_by, next_in, next_of, noted, own_job, path_in, progress_of, queued_here, read_entry, read_progress, reads_batch, reads_these, serves_by, serves_first, serves_with, started, started_here, started_there, starts_named, starts_one, stay_turn, tagged, turned, work_left}
unfoldable pub use Rattle.lard_rules.specs.Stay.{enters, starts_at}
pub use Rattle.lard_rules.specs.Tombstone.{is_plain_syn, is_telling, last_ack, last_words, refusal, tombstone}
pub use Rattle.lard_rules.specs.declared.fault.Refusal.{Refusal}
pub use Rattle.lard_rules.specs.declared.fault.StepFault.{StepFault}
pub use Rattle.lard_rules.specs.declared.fault.What.{What}
pub use Rattle.lard_rules.specs.declared.front.FrontIn.{FrontIn}
pub use Rattle.lard_rules.specs.declared.front.FrontRest.{FrontRest}
pub use Rattle.lard_rules.specs.declared.front.FrontState.{FrontState}
pub use Rattle.lard_rules.specs.declared.front.FrontTurn.{FrontTurn}
pub use Rattle.lard_rules.specs.declared.machine.Machine.{Machine}
pub use Rattle.lard_rules.specs.declared.node.BackIn.{BackIn}
pub use Rattle.lard_rules.specs.declared.node.NodeState.{NodeState}
pub use Rattle.lard_rules.specs.declared.node.NodeTurn.{NodeTurn}
pub use Rattle.lard_rules.specs.declared.places.Ending.{Ending}
pub use Rattle.lard_rules.specs.declared.places.Out.{Out}
pub use Rattle.lard_rules.specs.declared.places.Station.{Station}
pub use Rattle.lard_rules.specs.declared.places.Turn.{Turn}
pub use Rattle.lard_rules.specs.declared.stay.Asked.{Asked}
pub use Rattle.lard_rules.specs.declared.stay.Entry.{Entry}
pub use Rattle.lard_rules.specs.declared.stay.Next.{Next}
pub use Rattle.lard_rules.specs.declared.stay.Progress.{Progress}
pub use Rattle.lard_rules.specs.declared.stay.Stay.{Stay}
pub use Rattle.lard_rules.specs.declared.stay.Want.{Want}
pub use Rattle.lard_law_view.specs.Agreement.{Agrees, AreClientWords, AreReplies, ClientAgrees, EndedAs, FrontAgrees, HasRead, HasStopped, HoldsIt, IsReply, IsWord, SaysAnswers}
pub use Rattle.lard_law_view.specs.Carry.{Guarded, IsGuardedLaw, IsLaw, IsStepLaw, IsUntouchedLaw, MayRestOn, OfEach, Untouched, WhileUntouched, setting, tale_at}
pub use Rattle.lard_law_view.specs.ClientRule.{IsClientStep, IsGiven, KeepsTables, MustKeepTables, NoneOfClient, after_turn, at_client, client_of, client_step, client_turn, is_of_client, row_turn, turn_rows}
pub use Rattle.lard_law_view.specs.ClientTale.{ClientStands, ClientTale, IsNetOf, IsOpened, IsUnopened, client_tale, goal_in, lost_in}
pub use Rattle.lard_law_view.specs.Keeping.{AreClientNotes, ClientOpened, ClientTurned, TellsOf, accepted_in, bytes_served_in, is_reset_record, served_in, unwritten, written_in}
pub use Rattle.lard_law_view.specs.Laws.{Carries, CarriesRecords, CarriesSteps, GuardedIsLaw, HoldsTest, IsViewedAlways, PassesTest, StepsMove, UntouchedIsLaw}
pub use Rattle.lard_law_view.specs.Quiet.{IsComplete, IsQuiet, aborted_step, ended_step, has_aborted, has_ended, shut_step, was_shut}
pub use Rattle.lard_law_view.specs.Seat.{AtFront, Away, Nowhere, Over, Seat, seat_armed}
pub use Rattle.lard_law_view.specs.Taking.{Gets, MayTake, TakesInOrder, got_step, last_got}
pub use Rattle.lard_law_view.specs.Timers.{ChangesInSteps, ChangesTimers, change_of, is_change, is_change_of}
pub use Rattle.lard_law_view.specs.Truth.{Accepts, GoesOn, Hears, IsBare, IsStream, IsTrueOf, Speaks, Stands, Stream, stream_of}
pub use Rattle.lard_law_view.specs.Truthful.{IsTrueAfter, MayAccept, Talk}
pub use Rattle.lard_law_view.specs.Epochs.{IsOnceAway, IsOnceHere, IsOnceOver}
pub use Rattle.lard_law_view.specs.View.{AreBetween, AreNumbered, AreSent, ClientRules, Conn, FrontRules, GoesBetween, GoesBy, IsConnSound, IsForFront, IsForNode, IsForOtherNode, IsFrontEnv, IsMachine, IsNobody, IsNodeEnv, IsUnheard, IsViewed, Move, NodeRules, Part, Rules, Setting, SpellsMessage, TurnSaid, UntouchedRules, Was, ack_body, back_body, blank_conn, brought_said, by_client, by_front, by_node, client_begins, client_does, content_said, epoch_in, event_seen, front_admits, front_does, grown, inject_seen, kept_at, letter, letters_of, named_records, node_does, node_put_back, nothing_kept, nothing_said, packet_seen, reads_first, rows_of, seen_in, setting_of, stands, station_armed, which_leave, with_front, with_leaving, with_node, with_station}
unfoldable pub use Rattle.lard_law_view.specs.View.{conn, part_of, timer_rows}
