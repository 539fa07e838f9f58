mod PrintedTexts
mod RuleListeners
