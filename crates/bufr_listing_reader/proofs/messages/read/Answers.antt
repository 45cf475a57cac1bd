use Rattle.bufr_listing_reader.proofs.AnswerFacts.{answer_listed, listed_answered}
use Rattle.bufr_listing_reader.proofs.AnswerFacts.{answer_first_fault, first_fault_answered}
use Rattle.bufr_listing_reader.proofs.messages.read.Goals as goal

pub returns-clause-found : goal.returns-clause-found
returns-clause-found c =
    answer_listed c.listings_list_messages.ensures.read c.args.tables.now c.args.text.now
    (λ v. v.items) c.messages_listed.result c.messages_listed.ensures.exact

pub returns-clause-only : goal.returns-clause-only
returns-clause-only c =
    listed_answered c.listings_list_messages.ensures.listed c.args.tables.now c.args.text.now
    (λ v. v.items) c.messages_listed.result c.messages_listed.ensures.exact

pub returns-clause-first : goal.returns-clause-first
returns-clause-first c =
    answer_first_fault c.faults_of_listings_are_the_first.ensures.given c.args.tables.now
    c.args.text.now (λ v. v.items) c.messages_listed.result c.messages_listed.ensures.exact

pub returns-clause-told : goal.returns-clause-told
returns-clause-told c =
    first_fault_answered c.faults_of_listings_are_the_first.ensures.answered c.args.tables.now
    c.args.text.now (λ v. v.items) c.messages_listed.result c.messages_listed.ensures.exact
